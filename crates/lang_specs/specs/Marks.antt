-- What a token says, wherever it stands in its line.
use Rattle.std.specs.Prelude.{ℕ, Bool, true, false, if◌then◌else◌, List, [], ◌∷◌, ◌++◌, map}
use Rattle.lang_specs.specs.declared.Kind.{Kind}
use Rattle.lang_specs.specs.declared.Kind.TheVariants.{Name, Number, EndLine}
use Rattle.lang_specs.specs.Tokens.{Placed}

-- what a token is, and of a name or a literal its bytes
pub record Mark : Type 0 where
  pub kind : Kind
  pub text : List ℕ

-- only names and literals differ within their kind
abbrev pub has_text : Kind → Bool
has_text Name = true
has_text Number = true
has_text k = false

abbrev pub mark : Placed → Mark
mark t = record { kind = t.kind; text = if has_text t.kind then t.text else [] }

-- a keyword, a sign, or an end
abbrev pub the : Kind → Mark
the k = record { kind = k; text = [] }

abbrev pub a_name : List ℕ → Mark
a_name text = record { kind = Name; text = text }

abbrev pub a_number : List ℕ → Mark
a_number text = record { kind = Number; text = text }

-- a mark, and the line that it stands in
pub record Lined : Type 0 where
  pub line : ℕ
  pub mark : Mark

-- what tokens say, line by line
abbrev pub lined : List Placed → List Lined
lined ts = map (λ t. record { line = t.line; mark = mark t }) ts

-- a statement is one line, from its first token to its end
abbrev pub statement : ℕ → List Mark → List Lined
statement line ms = map (λ m. record { line = line; mark = m }) (ms ++ the EndLine ∷ [])
