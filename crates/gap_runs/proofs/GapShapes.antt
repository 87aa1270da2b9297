-- A gap run that is made of its numbers has these numbers, and its points are as wide as they say.
use Rattle.std.proofs.Common.{◌≡◌, ℕ, suc, ◌+◌, ◌*◌, ◌-◌, ◌<◌, ◌≤◌, List, [], ◌∷◌, ◌++◌, append_assoc, drop, take, length, length-drop, length-take, refl, sym, ◌∙◌, ap, arith, ℤ, pos}
use Rattle.std.specs.Prelude.{All}
use Rattle.std.specs.List.{AllByRecursion}
use Rattle.std.proofs.Math.Seq.{take-add, take-length}
use Rattle.std.proofs.lemmas.Int.{ints}
use Rattle.std.proofs.lemmas.List.{drop-drop, drop_more, get_or-drop, take_all}
use Rattle.std.proofs.lemmas.List.Elements.{All-from_recursion, All-take, All-drop}
use Rattle.gap_runs.specs.Shapes.{leg_at, moves_of, shaped, step}
use Rattle.poly_specs.specs.Bits.{FitsBits}
use Rattle.poly_specs.specs.KeptRows.{IsKeptPoint}
use Rattle.poly_specs.specs.Lists.{number_at}
use Rattle.poly_specs.specs.Rows.{Point}
use Rattle.replay_specs.specs.RunTexts.{AreWritableValues, IsWritableGap, IsWritableLeg, IsWritableMove}
use Rattle.run_parts.specs.Widths.{IsWide}
use Rattle.run_specs.proofs.MixLemmas.{transitions}
use Rattle.run_specs.specs.Automaton.{Automaton, width, transition_at}
use Rattle.run_specs.specs.FirstRun.{backwards}
use Rattle.run_specs.specs.Passes.{Fits}
use Rattle.run_specs.specs.Runs.{GapRun}
use Rattle.run_specs.specs.WellFormed.{IsWellFormed}

-- how many numbers a path of n transitions has
abbrev pub count : ℕ → ℕ → ℕ
count m n = (n + 1) * step m

count_more : (m n : ℕ) → count m (suc n) ≡ count m n + step m
count_more m n = omega arith

-- a leg's values at the end, its length and then its start values
leg_part : (m from : ℕ) (nums : List ℤ) → from + step m ≤ length nums →
    take m (drop from nums) ++ number_at (from + m) nums ∷ take m (drop (from + m + 1) nums) ≡ take (step m) (drop from nums)
leg_part m from nums h =
    let xs : List ℤ = drop from nums in
    let within : m < length xs = omega (arith, h, length-drop from nums) in
    let all : m + suc m ≡ step m = omega arith in
    let next : from + (m + 1) ≡ from + m + 1 = omega arith in
    let rest : drop m xs ≡ number_at (from + m) nums ∷ drop (from + m + 1) nums =
    drop_more xs m (pos 0) within ∙ ap (λ x. x ∷ drop (m + 1) xs) (get_or-drop from nums m (pos 0))
    ∙ ap (λ ys. number_at (from + m) nums ∷ ys) (drop-drop (m + 1) from nums ∙ ap (λ k. drop k nums) next) in
    ap (λ ys. take m xs ++ ys) (sym (ap (take (suc m)) rest)) ∙ sym (take-add m (suc m) xs) ∙ ap (λ k. take k xs) all

-- ---- all numbers

-- the start values of a path of n transitions
abbrev start_at : ℕ → ℕ → List ℤ → List ℤ
start_at m n nums = take m (drop (count m n - m) nums)

numbers_front : (m : ℕ) (path : List ℕ) (nums : List ℤ) → count m (length path) ≤ length nums →
    take m nums ++ backwards (start_at m (length path) nums) (moves_of m path nums) (leg_at m nums 0) ≡ take (count m (length path)) nums
numbers_front m [] nums h =
    let place : count m 0 - m ≡ 0 + m + 1 = omega arith in
    let all : step m ≡ count m 0 = omega arith in
    ap (λ k. take m nums ++ number_at (0 + m) nums ∷ take m (drop k nums)) place ∙ leg_part m 0 nums (omega (arith, h, all)) ∙ ap (λ k. take k nums) all
numbers_front m (e ∷ path) nums h =
    let n : ℕ = length path in
    let w : ℕ = count m n in
    let more : count m (suc n) ≡ w + step m = count_more m n in
    let place : count m (suc n) - m ≡ w + m + 1 = omega (arith, more) in
    let b : List ℤ = backwards (start_at m n nums) (moves_of m path nums) (leg_at m nums 0) in
    let q : List ℤ = take m (drop w nums) in
    let rest : List ℤ = number_at (w + m) nums ∷ start_at m (suc n) nums in
    let before = numbers_front m path nums (omega (arith, h, more)) in
    let last : q ++ rest ≡ take (step m) (drop w nums) =
    ap (λ k. q ++ number_at (w + m) nums ∷ take m (drop k nums)) place ∙ leg_part m w nums (omega (arith, h, more)) in
    sym (append_assoc (take m nums) (b ++ q) rest) ∙ ap (λ ys. ys ++ rest) (sym (append_assoc (take m nums) b q))
    ∙ append_assoc (take m nums ++ b) q rest ∙ ap (λ ys. ys ++ (q ++ rest)) before ∙ ap (λ ys. take w nums ++ ys) last
    ∙ sym (take-add w (step m) nums) ∙ ap (λ k. take k nums) (sym more)

module _ (m loc : ℕ) (path : List ℕ) (p : Point) (sized : length p.num ≡ count m (length path)) where
  abbrev g : GapRun
  g = shaped m loc path p

  start_is : take m (drop (count m (length path) - m) p.num) ≡ g.start
  start_is =
      ap (λ k. take m (drop (k - m) p.num)) (sym sized)
      ∙ take_all m (drop (length p.num - m) p.num) (omega (arith, length-drop (length p.num - m) p.num, sized))

  pub shaped_numbers : (shaped m loc path p).last.at_end ++ backwards (shaped m loc path p).start (shaped m loc path p).moves (shaped m loc path p).last ≡ p.num
  shaped_numbers =
      ap (λ s. take m p.num ++ backwards s g.moves g.last) (sym start_is) ∙ numbers_front m path p.num (omega (arith, sized))
      ∙ ap (λ k. take k p.num) (sym sized) ∙ take-length p.num

  shaped_path : (es : List ℕ) → transitions (moves_of m es p.num) ≡ es
  shaped_path [] = refl
  shaped_path (e ∷ es) = ap (λ xs. e ∷ xs) (shaped_path es)

  pub path_is : transitions (shaped m loc path p).moves ≡ path
  path_is = shaped_path path

  -- ---- how wide it is

  values_long : (from : ℕ) → from + m ≤ length p.num → length (take m (drop from p.num)) ≡ m
  values_long from h = omega (arith, h, length-take m (drop from p.num), length-drop from p.num)

  moves_wide : (es : List ℕ) → count m (length es) ≤ length p.num → AllByRecursion (λ y. (length y.leg.at_end ≡ m) × (length y.after ≡ m)) (moves_of m es p.num)
  moves_wide [] h = tt
  moves_wide (e ∷ es) h =
      let more = count_more m (length es) in (
        (values_long (count m (length es)) (omega (arith, h, more)), values_long (count m (length es) - m) (omega (arith, h, more))),
        moves_wide es (omega (arith, h, more)),
      )

  start_long : length (shaped m loc path p).start ≡ m
  start_long = omega (arith, length-drop (length p.num - m) p.num, sized)

  last_long : length (shaped m loc path p).last.at_end ≡ m
  last_long = omega (arith, length-take m p.num, sized)

  pub shaped_wide : IsWide m (shaped m loc path p)
  shaped_wide = record {
    start = start_long;
    moves = All-from_recursion (λ y. (length y.leg.at_end ≡ m) × (length y.after ≡ m)) g.moves (moves_wide path (omega (arith, sized)));
    last = last_long;
  }

  -- ---- its numbers have 128 bits

  module _ (a : Automaton) (wf : IsWellFormed a) (same : m ≡ width a) (kept : IsKeptPoint p) where
    values_fit : (ns : List ℤ) → length ns ≡ m → All FitsBits ns → AreWritableValues ns
    values_fit ns l h = record {
      some = omega (arith, l, same, wf.variables.0);
      few = omega (arith, l, same, wf.variables.1);
      fit = h;
    }

    part_fits : (from : ℕ) → All FitsBits (take m (drop from p.num))
    part_fits from = All-take FitsBits m (drop from p.num) (All-drop FitsBits from p.num kept.num_fits)

    leg_fits : (from : ℕ) → from + m < length p.num → IsWritableLeg (leg_at m p.num from)
    leg_fits from h = record {
      time = kept.num_fits (from + m) (pos 0) h;
      at_end = values_fit (take m (drop from p.num)) (values_long from (omega (arith, h))) (part_fits from);
    }

    moves_fit : (l : ℕ) (es : List ℕ) → Fits a l es → count m (length es) ≤ length p.num → AllByRecursion IsWritableMove (moves_of m es p.num)
    moves_fit l [] fits h = tt
    moves_fit l (e ∷ es) fits h =
        let more = count_more m (length es) in
        let from : ℕ = count m (length es) in (
          record {
            leg = leg_fits from (omega (arith, h, more));
            transition = omega (arith, fits.0, wf.transitions);
            after = values_fit (take m (drop (from - m) p.num)) (values_long (from - m) (omega (arith, h, more))) (part_fits (from - m));
          },
          moves_fit (transition_at a e).target es fits.2 (omega (arith, h, more)),
        )

    pub shaped_fits : loc < length a.locations → Fits a loc path → IsWritableGap (shaped m loc path p)
    shaped_fits hl fits = record {
      positive = (let h = kept.positive in omega (arith, ints, h));
      den = kept.den_fits;
      start_loc = omega (arith, hl, wf.locations.1);
      start = values_fit g.start start_long (All-drop FitsBits (length p.num - m) p.num kept.num_fits);
      moves = All-from_recursion IsWritableMove g.moves (moves_fit loc path fits (omega (arith, sized)));
      last = leg_fits 0 (omega (arith, sized));
    }
