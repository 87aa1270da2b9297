-- How wide rows are once their columns are moved or cut.
use Rattle.std.proofs.Common.{◌≡◌, ℕ, ◌≤◌, List, [], ◌∷◌, length, map, replicate, ◌∙◌, pos}
use Rattle.std.specs.List.{All}
use Rattle.std.proofs.lemmas.List.{length-replicate, length-take-le}
use Rattle.std.proofs.lemmas.List.Elements.{All-nil, All-cons, All-head, All-tail}
use Rattle.lin_row.proofs.ColumnLemmas.{length-put}
use Rattle.poly_specs.specs.Columns.{placed, cut}
use Rattle.poly_specs.specs.Rows.{Row, AllWide}

pub placed_wide : (to : List ℕ) (n : ℕ) (rows : List Row) → AllWide n (map (placed to n) rows)
placed_wide to n [] = All-nil (λ r. length r.coef ≡ n)
placed_wide to n (r ∷ rows) =
    All-cons (λ s. length s.coef ≡ n) (placed to n r) (map (placed to n) rows)
    (length-put to r.coef (replicate n (pos 0)) ∙ length-replicate n (pos 0)) (placed_wide to n rows)

pub cut_wide : (n : ℕ) (rows : List Row) → All (λ r. n ≤ length r.coef) rows → AllWide n (map (cut n) rows)
cut_wide n [] h = All-nil (λ r. length r.coef ≡ n)
cut_wide n (r ∷ rows) h =
    All-cons (λ s. length s.coef ≡ n) (cut n r) (map (cut n) rows)
    (length-take-le n r.coef (All-head (λ s. n ≤ length s.coef) r rows h))
    (cut_wide n rows (All-tail (λ s. n ≤ length s.coef) r rows h))
