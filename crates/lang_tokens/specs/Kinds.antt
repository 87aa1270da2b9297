-- Tests of kinds.
use Rattle.std.specs.Prelude.{ℕ, Bool, ◌==◌}
use Rattle.lang_specs.specs.declared.Kind.{Kind}
use Rattle.lang_specs.specs.declared.Kind.TheVariants.{Name, Number, Lha, Automaton, Var, Loc, Unsafe, Init, Inv, Flow, In, Also, Trans, As, When, Set, Free, End, True, Obs, Within, Comma, Open, Close, AtMost, AtLeast, Equal, Less, Greater, Plus, Minus, Times, Arrow, EndLine, EndText, Other}

-- the place of a kind among all
abbrev pub code : Kind → ℕ
code Name = 0
code Number = 1
code Lha = 2
code Automaton = 3
code Var = 4
code Loc = 5
code Unsafe = 6
code Init = 7
code Inv = 8
code Flow = 9
code In = 10
code Also = 11
code Trans = 12
code As = 13
code When = 14
code Set = 15
code Free = 16
code End = 17
code True = 18
code Obs = 19
code Within = 20
code Comma = 21
code Open = 22
code Close = 23
code AtMost = 24
code AtLeast = 25
code Equal = 26
code Less = 27
code Greater = 28
code Plus = 29
code Minus = 30
code Times = 31
code Arrow = 32
code EndLine = 33
code EndText = 34
code Other = 35

-- both are one kind
abbrev pub same_kind : Kind → Kind → Bool
same_kind a b = code a == code b
