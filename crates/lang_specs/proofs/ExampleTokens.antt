-- Lines and texts whose tokens compute.
use Rattle.std.proofs.Common.{◌≡◌, [], ◌∷◌, map, codes, refl}
use Rattle.std.specs.Fmt.{digits}
use Rattle.run_specs.specs.Names.{keywords}
use Rattle.lang_specs.specs.declared.Kind.TheVariants.{Lha, Name, Number, Trans, As, When, End, Comma, Open, Close, AtMost, AtLeast, Less, Greater, Equal, Minus, Arrow, EndLine, EndText, Other}
use Rattle.lang_specs.specs.Words.{spelled, keyword_kinds}
use Rattle.lang_specs.specs.Tokens.{cut}
use Rattle.lang_specs.specs.Lines.{lines_from}
use Rattle.lang_specs.specs.Limits.{row_count}
use Rattle.lang_specs.specs.Canonical.{canonical_text}
use Rattle.lang_specs.specs.Examples.{at, seen, in_line, seen_in, tank, tank_printed, narrow, narrow_printed, two_rows, starts}

pub words : map spelled keyword_kinds ≡ keywords
words = refl

pub lines : (seen (codes "lha 1") ≡ at 1 Lha ∷ at 5 Number ∷ at 6 EndLine ∷ [])
    × (seen (codes "trans a->b as p when x>=8 # far") ≡ at 1 Trans ∷ at 7 Name ∷ at 8 Arrow ∷ at 10 Name ∷ at 12 As ∷ at 15 Name ∷ at 17 When
    ∷ at 22 Name ∷ at 23 AtLeast ∷ at 25 Number ∷ at 26 EndLine ∷ [])
    × (seen (codes "x-->in_3<=>=<>") ≡ at 1 Name ∷ at 2 Minus ∷ at 3 Arrow ∷ at 5 Name ∷ at 9 AtMost ∷ at 11 AtLeast ∷ at 13 Less ∷ at 14 Greater
    ∷ at 15 EndLine ∷ [])
    × (seen (codes "[1.50,1/2] \t") ≡ at 1 Open ∷ at 2 Number ∷ at 6 Comma ∷ at 7 Number ∷ at 10 Close ∷ at 11 EndLine ∷ [])
unfolding cut
lines = (refl, refl, refl, refl)

pub odd_lines : (seen (codes "1.5/2") ≡ at 1 Number ∷ at 4 Other ∷ at 5 Number ∷ at 6 EndLine ∷ [])
    × (seen (codes "8set 8 end") ≡ at 1 Number ∷ at 2 Other ∷ at 6 Number ∷ at 8 End ∷ at 11 EndLine ∷ [])
    × (seen (codes "1234567890/00 1.") ≡ at 1 Other ∷ at 15 Number ∷ at 16 Other ∷ at 17 EndLine ∷ [])
    × (seen (codes "x \r ?") ≡ at 1 Name ∷ at 3 Other ∷ at 5 Other ∷ at 6 EndLine ∷ [])
    × (seen (codes "x \r") ≡ at 1 Name ∷ at 3 Other ∷ at 2 EndLine ∷ [])
unfolding cut
odd_lines = (refl, refl, refl, refl, refl)

pub texts : (seen_in (codes "lha 1") ≡ seen_in (codes "lha 1\r\n"))
    × (seen_in (codes "lha 1\n") ≡ in_line 1 1 Lha ∷ in_line 1 5 Number ∷ in_line 1 6 EndLine ∷ in_line 2 1 EndText ∷ [])
    × (seen_in (codes "\n # x\r\nend\r") ≡ in_line 3 1 End ∷ in_line 3 4 Other ∷ in_line 3 4 EndLine ∷ in_line 4 1 EndText ∷ [])
    × (seen_in (codes "=\r\r\n  ") ≡ in_line 1 1 Equal ∷ in_line 1 2 Other ∷ in_line 1 2 EndLine ∷ in_line 3 1 EndText ∷ [])
    × (seen_in [] ≡ in_line 1 1 EndText ∷ [])
unfolding cut lines_from
texts = (refl, refl, refl, refl, refl)

pub counts : (row_count starts ≡ 3) × (row_count two_rows ≡ 2)
counts = (refl, refl)

pub printed : (canonical_text (tank ∷ []) ≡ tank_printed) × (canonical_text (narrow ∷ []) ≡ narrow_printed)
unfolding digits
printed = (refl, refl)
