-- How the words and signs of the language are spelled.
use Rattle.std.specs.Prelude.{ℕ, ◌==◌, List, [], ◌∷◌, codes, bytes_eq}
use Rattle.std.specs.List.{find, starts_with}
use Rattle.std.specs.Option.{unwrap_or}
use Rattle.lang_specs.specs.declared.Kind.{Kind}
use Rattle.lang_specs.specs.declared.Kind.TheVariants.{Name, Number, Lha, Automaton, Var, Loc, Unsafe, Init, Inv, Flow, In, Also, Trans, As, When, Set, Free, End, True, Obs, Within, Comma, Open, Close, AtMost, AtLeast, Equal, Less, Greater, Plus, Minus, Times, Arrow, EndLine, EndText, Other}

-- a keyword or a sign, as it is written; other kinds have no spelling of their own
abbrev pub spelled : Kind → List ℕ
spelled Lha = codes "lha"
spelled Automaton = codes "automaton"
spelled Var = codes "var"
spelled Loc = codes "loc"
spelled Unsafe = codes "unsafe"
spelled Init = codes "init"
spelled Inv = codes "inv"
spelled Flow = codes "flow"
spelled In = codes "in"
spelled Also = codes "also"
spelled Trans = codes "trans"
spelled As = codes "as"
spelled When = codes "when"
spelled Set = codes "set"
spelled Free = codes "free"
spelled End = codes "end"
spelled True = codes "true"
spelled Obs = codes "obs"
spelled Within = codes "within"
spelled Comma = codes ","
spelled Open = codes "["
spelled Close = codes "]"
spelled AtMost = codes "<="
spelled AtLeast = codes ">="
spelled Equal = codes "="
spelled Less = codes "<"
spelled Greater = codes ">"
spelled Plus = codes "+"
spelled Minus = codes "-"
spelled Times = codes "*"
spelled Arrow = codes "->"
spelled Name = []
spelled Number = []
spelled EndLine = []
spelled EndText = []
spelled Other = []

-- the keywords, in the order of the list of words that no name may be
abbrev pub keyword_kinds : List Kind
keyword_kinds =
    Lha ∷ Automaton ∷ Var ∷ Loc ∷ Unsafe ∷ Init ∷ Inv ∷ Flow ∷ In ∷ Also ∷ Trans ∷ As ∷ When ∷ Set ∷ Free ∷ End ∷ True ∷ Obs ∷ Within ∷ []

-- the signs; one that another sign begins with stands behind it, so that the longest is found first
abbrev pub sign_kinds : List Kind
sign_kinds = AtMost ∷ AtLeast ∷ Arrow ∷ Less ∷ Greater ∷ Minus ∷ Equal ∷ Plus ∷ Times ∷ Comma ∷ Open ∷ Close ∷ []

-- the keyword that a word is, or else a name
abbrev pub word_kind : List ℕ → Kind
word_kind word = unwrap_or (find (λ k. bytes_eq word (spelled k)) keyword_kinds) Name

-- the longest sign that the bytes begin with, or else what nothing allows
abbrev pub sign_kind : List ℕ → Kind
sign_kind bytes = unwrap_or (find (λ k. starts_with (λ a b. a == b) bytes (spelled k)) sign_kinds) Other
