-- A run from the numbers of its history, and the numbers from a run.
use Rattle.std.proofs.Common.{◌≡◌, ℕ, zero, suc, ◌+◌, ◌<◌, ◌≤◌, List, [], ◌∷◌, ◌++◌, length, length-take, length-drop, append_assoc, take, drop, map, refl, sym, ◌∙◌, ap, subst, arith, ℤ, pos, ◌+ℤ◌, ◌<ℤ◌}
use Rattle.std.proofs.lemmas.Int.{ints}
use Rattle.std.proofs.lemmas.List.{take-append-drop, length-map}
use Rattle.poly_specs.proofs.PrimitiveLemmas.{same_list}
use Rattle.poly_specs.proofs.LinearLemmas.{dot-append}
use Rattle.run_specs.proofs.StageLemmas.{dot-zeros, length-zeros}
use Rattle.run_specs.proofs.MixLemmas.{transitions}
use Rattle.run_specs.proofs.HistorySystems.{LegAfter, JumpAfter, PathFrom, GapFrom, GapsFrom, path_columns, gaps_columns, elapsed, take_here, drop_here, drop_number, same_leg, same_jump}
use Rattle.poly_specs.specs.Lists.{dot, scaled, number_at}
use Rattle.poly_specs.specs.Fractions.{Fraction, SameFraction, difference}
use Rattle.poly_specs.specs.Rows.{over, SamePoint}
use Rattle.run_specs.specs.Automaton.{Automaton, width, location_at, transition_at}
use Rattle.run_specs.specs.Logs.{Sample, IsPassing}
use Rattle.run_specs.specs.Runs.{Leg, Move, GapRun, Place, IsLeg, IsJump, LeadOn, IsGapRun, Follows, path_of, end_of, end_loc, end_point, total}
use Rattle.run_specs.specs.FirstRun.{backwards}
use Rattle.run_specs.specs.Stages.{zeros}

-- ---- the numbers of gap runs over one denominator

-- the last values, where they were p before the gaps
abbrev pub ends : List ℤ → List GapRun → List ℤ
ends p [] = p
ends p (g ∷ gs) = ends g.last.at_end gs

-- the numbers before them, the last gap first
abbrev pub backs : List GapRun → List ℤ
backs [] = []
backs (g ∷ gs) = backs gs ++ backwards g.start g.moves g.last

-- all are over this denominator
abbrev pub AllOver : ℤ → List GapRun → Type 0
AllOver d [] = Unit {0}
AllOver d (g ∷ gs) = (g.den ≡ d) × AllOver d gs

-- a gap run from its parts
abbrev pub gap_at : ℤ → ℕ → List ℤ → List Move → Leg → GapRun
gap_at d l p moves last = record { den = d; start_loc = l; start = p; moves = moves; last = last }

-- ---- from the numbers of a path

regroup : (b q u tail : List ℤ) → b ++ (q ++ (u ++ tail)) ≡ ((b ++ q) ++ u) ++ tail
regroup b q u tail = sym (append_assoc b q (u ++ tail)) ∙ sym (append_assoc (b ++ q) u tail)

leg_parts : (m : ℕ) (ns : List ℤ) → m < length ns → ns ≡ take m ns ++ (number_at m ns ∷ (take m (drop (suc m) ns) ++ drop m (drop (suc m) ns)))
leg_parts m ns h =
    sym (take-append-drop m ns)
    ∙ ap (λ xs. take m ns ++ xs) (drop_number m ns h)
    ∙ ap (λ xs. take m ns ++ (number_at m ns ∷ xs)) (sym (take-append-drop m (drop (suc m) ns)))

-- the legs and jumps that numbers stand for, and the numbers before them
pub record PathRun (a : Automaton) (l : ℕ) (path : List ℕ) (n : ℕ) (P : ℤ → List ℤ → Type 0) (d : ℤ) (ns : List ℤ) : Type 0 where
  pub rest : List ℤ
  pub moves : List Move
  pub last : Leg
  pub long : length rest ≡ n
  pub before : P d rest
  pub leads : LeadOn a d l (take (width a) rest) moves last
  pub path_is : transitions moves ≡ path
  pub sized : length last.at_end ≡ width a
  pub numbers : ns ≡ last.at_end ++ (backwards (take (width a) rest) moves last ++ drop (width a) rest)

path_long : (m : ℕ) (path : List ℕ) (n : ℕ) → suc m + n ≤ path_columns m path n
path_long m [] n = omega arith
path_long m (e ∷ path) n = let h = path_long m path (m + (suc m + n)) in omega (arith, h)

pub path_out : (a : Automaton) (l : ℕ) (path : List ℕ) (n : ℕ) (P : ℤ → List ℤ → Type 0) (d : ℤ) (ns : List ℤ) → width a ≤ n → length ns ≡ path_columns (width a) path n →
    PathFrom a l path P d ns → PathRun a l path n P d ns
path_out a l [] n P d ns hn len h = record {
  rest = drop (suc (width a)) ns;
  moves = [];
  last = record { length_of = number_at (width a) ns; at_end = take (width a) ns };
  long = omega (arith, length-drop (suc (width a)) ns, len);
  before = h.0;
  leads = h.1;
  path_is = refl;
  sized = omega (arith, length-take (width a) ns, len);
  numbers = leg_parts (width a) ns (omega (arith, len));
}
path_out a l (e ∷ path) n P d ns hn len h =
    let m : ℕ = width a in
    let r = path_out a (transition_at a e).target path (m + (suc m + n)) (JumpAfter a l e (LegAfter a l P)) d ns (omega arith) len h in
    let x : List ℤ = drop m r.rest in
    let lx : length x ≡ suc m + n = omega (arith, length-drop m r.rest, r.long) in
    let q : List ℤ = take m x in
    let t : ℤ = number_at m x in
    let rest : List ℤ = drop (suc m) x in
    let b : List ℤ = backwards (take m r.rest) r.moves r.last in
    record {
      rest = rest;
      moves = record { leg = record { length_of = t; at_end = q }; transition = e; after = take m r.rest } ∷ r.moves;
      last = r.last;
      long = omega (arith, length-drop (suc m) x, lx);
      before = r.before.0.0;
      leads = (r.before.0.1, r.before.1, r.before.2, r.leads);
      path_is = ap (λ es. e ∷ es) r.path_is;
      sized = r.sized;
      numbers = r.numbers
          ∙ ap (λ xs. r.last.at_end ++ (b ++ xs)) (leg_parts m x (omega (arith, lx)))
          ∙ ap (λ xs. r.last.at_end ++ xs) (regroup b q (t ∷ take m rest) (drop m rest));
    }

-- ---- the elapsed time

pub total_elapsed : (a : Automaton) (d : ℤ) (l : ℕ) (cs p : List ℤ) (ms : List Move) (f : Leg) (tail : List ℤ) → length p ≡ width a → LeadOn a d l p ms f →
    dot (elapsed (width a) (transitions ms) cs) (f.at_end ++ (backwards p ms f ++ tail)) ≡ total ms f +ℤ dot cs (p ++ tail)
total_elapsed a d l cs p [] f tail lp h =
    let m : ℕ = width a in
    let lq : length f.at_end ≡ m = h.same_size ∙ lp in
    let e = dot-append (zeros m) (pos 1 ∷ cs) f.at_end (f.length_of ∷ (p ++ tail)) (length-zeros m ∙ sym lq) in
    let z = dot-zeros m f.at_end in
    omega (arith, ints, e, z)
total_elapsed a d l cs p (y ∷ ms) f tail lp h =
    let m : ℕ = width a in
    let q : List ℤ = y.leg.at_end in
    let t : ℤ = y.leg.length_of in
    let lq : length q ≡ m = h.0.same_size ∙ lp in
    let la : length y.after ≡ m = h.2.same_size ∙ lq in
    let more : List ℤ = zeros m ++ pos 1 ∷ cs in
    let b : List ℤ = backwards y.after ms f in
    let r = total_elapsed a d (transition_at a y.transition).target (zeros m ++ more) y.after ms f (q ++ (t ∷ (p ++ tail))) la h.3 in
    let e = dot-append (zeros m) more y.after (q ++ (t ∷ (p ++ tail))) (length-zeros m ∙ sym la) in
    let g = dot-append (zeros m) (pos 1 ∷ cs) q (t ∷ (p ++ tail)) (length-zeros m ∙ sym lq) in
    let z = dot-zeros m q in
    let y' = dot-zeros m y.after in
    ap (λ xs. dot (elapsed m (transitions ms) (zeros m ++ more)) (f.at_end ++ xs)) (sym (regroup b q (t ∷ p) tail))
    ∙ r ∙ omega (arith, ints, e, g, z, y')

-- ---- from the numbers of a gap

pub record GapOut (a : Automaton) (k l : ℕ) (path : List ℕ) (duration : Fraction) (s : Sample) (n : ℕ) (P : ℤ → List ℤ → Type 0) (d : ℤ) (ns : List ℤ) : Type 0 where
  pub parts : PathRun a l path n P d ns
  pub few : length parts.moves ≤ k
  pub gap_run : IsGapRun a duration (gap_at d l (take (width a) parts.rest) parts.moves parts.last)
  pub passes : IsPassing a s.cells (over d parts.last.at_end)
  pub end_is : take (width a) ns ≡ parts.last.at_end
  pub back_is : drop (width a) ns ≡ backwards (take (width a) parts.rest) parts.moves parts.last ++ drop (width a) parts.rest

pub gap_out : (a : Automaton) (k l : ℕ) (path : List ℕ) (duration : Fraction) (s : Sample) (n : ℕ) (P : ℤ → List ℤ → Type 0) (d : ℤ) (ns : List ℤ) →
    width a ≤ n → length ns ≡ path_columns (width a) path n → pos 0 <ℤ d → GapFrom a k l path duration s.cells P d ns → GapOut a k l path duration s n P d ns
gap_out a k l path duration s n P d ns hn len hd h =
    let m : ℕ = width a in
    let r = path_out a l path n P d ns hn len h.1.0 in
    let b : List ℤ = backwards (take m r.rest) r.moves r.last ++ drop m r.rest in
    let end_is : take m ns ≡ r.last.at_end = ap (take m) r.numbers ∙ take_here m r.last.at_end b r.sized in
    let lp : length (take m r.rest) ≡ m = omega (arith, length-take m r.rest, r.long, hn) in
    let sum : dot (elapsed m path []) ns ≡ total r.moves r.last =
    ap (λ z. dot (elapsed m z []) ns) (sym r.path_is) ∙ ap (dot (elapsed m (transitions r.moves) [])) r.numbers
    ∙ total_elapsed a d l [] (take m r.rest) r.moves r.last (drop m r.rest) lp r.leads ∙ omega (arith, ints) in
    record {
      parts = r;
      few = omega (arith, h.0, ap length r.path_is, length-map r.moves (λ x. x.transition));
      gap_run = record { positive = hd; leads = r.leads; lasts = subst (λ z. SameFraction (record { num = z; den = d }) duration) sum h.1.1.0 };
      passes = subst (λ q. IsPassing a s.cells (over d q)) end_is h.1.1.1;
      end_is = end_is;
      back_is = ap (drop m) r.numbers ∙ drop_here m r.last.at_end b r.sized;
    }

-- ---- from the numbers of all gaps

pub record GapsOut (a : Automaton) (k l : ℕ) (t : Fraction) (ss : List Sample) (paths : List (List ℕ)) (n : ℕ) (P : ℤ → List ℤ → Type 0) (d : ℤ) (ns : List ℤ) : Type 0 where
  pub rest : List ℤ
  pub gaps : List GapRun
  pub long : length rest ≡ n
  pub before : P d rest
  pub follows : Follows a k (record { loc = l; point = over d (take (width a) rest) }) t ss gaps
  pub paths_are : map path_of gaps ≡ paths
  pub dens : AllOver d gaps
  pub numbers : ns ≡ ends (take (width a) rest) gaps ++ (backs gaps ++ drop (width a) rest)

pub gaps_out : (a : Automaton) (k l : ℕ) (t : Fraction) (ss : List Sample) (paths : List (List ℕ)) (n : ℕ) (P : ℤ → List ℤ → Type 0) (d : ℤ) (ns : List ℤ) →
    width a ≤ n → length ns ≡ gaps_columns (width a) paths n → pos 0 <ℤ d → GapsFrom a k l t ss paths P d ns → GapsOut a k l t ss paths n P d ns
gaps_out a k l t [] [] n P d ns hn len hd h =
    record { rest = ns; gaps = []; long = len; before = h; follows = tt; paths_are = refl; dens = tt; numbers = sym (take-append-drop (width a) ns) }
gaps_out a k l t [] (path ∷ paths) n P d ns hn len hd h = absurd h
gaps_out a k l t (s ∷ ss) [] n P d ns hn len hd h = absurd h
gaps_out a k l t (s ∷ ss) (path ∷ paths) n P d ns hn len hd h =
    let m : ℕ = width a in
    let r = gaps_out a k (end_loc a l path) s.time ss paths (path_columns m path n) (GapFrom a k l path (difference s.time t) s.cells P) d ns
    (let w = path_long m path n in omega (arith, w, hn)) len hd h in
    let g = gap_out a k l path (difference s.time t) s n P d r.rest hn r.long hd r.before in
    let p : List ℤ = take m g.parts.rest in
    let gap : GapRun = gap_at d l p g.parts.moves g.parts.last in
    let b : List ℤ = backwards p g.parts.moves g.parts.last in
    record {
      rest = g.parts.rest;
      gaps = gap ∷ r.gaps;
      long = g.parts.long;
      before = g.parts.before;
      follows = (
        record { same_loc = refl; same_point = refl; few = g.few; gap_run = g.gap_run; passes = g.passes },
        subst (λ (place : Place). Follows a k place s.time ss r.gaps) (λ i. record { loc = end_loc a l (sym g.parts.path_is i); point = over d (g.end_is i) }) r.follows,
      );
      paths_are = λ i. g.parts.path_is i ∷ r.paths_are i;
      dens = (refl, r.dens);
      numbers = r.numbers
          ∙ ap (λ xs. ends xs r.gaps ++ (backs r.gaps ++ drop m r.rest)) g.end_is
          ∙ ap (λ xs. ends g.parts.last.at_end r.gaps ++ (backs r.gaps ++ xs)) g.back_is
          ∙ ap (λ xs. ends g.parts.last.at_end r.gaps ++ xs) (sym (append_assoc (backs r.gaps) b (drop m g.parts.rest)));
    }

-- ---- to the numbers of a path

number_here : (m : ℕ) (q : List ℤ) (t : ℤ) (xs : List ℤ) → length q ≡ m → number_at m (q ++ (t ∷ xs)) ≡ t
number_here zero [] t xs e = refl
number_here zero (y ∷ q) t xs e = absurd (omega arith)
number_here (suc m) [] t xs e = absurd (omega arith)
number_here (suc m) (y ∷ q) t xs e = number_here m q t xs (omega arith)

drop_past : (m : ℕ) (q : List ℤ) (t : ℤ) (xs : List ℤ) → length q ≡ m → drop (suc m) (q ++ (t ∷ xs)) ≡ xs
drop_past zero [] t xs e = refl
drop_past zero (y ∷ q) t xs e = absurd (omega arith)
drop_past (suc m) [] t xs e = absurd (omega arith)
drop_past (suc m) (y ∷ q) t xs e = drop_past m q t xs (omega arith)

leg_put : (a : Automaton) (l : ℕ) (P : ℤ → List ℤ → Type 0) (d : ℤ) (p : List ℤ) (t : ℤ) (q tail : List ℤ) → length p ≡ width a → length q ≡ width a →
    P d (p ++ tail) → IsLeg (location_at a l) d p t q → LegAfter a l P d (q ++ (t ∷ (p ++ tail)))
leg_put a l P d p t q tail lp lq h leg =
    let m : ℕ = width a in
    let after : drop (suc m) (q ++ (t ∷ (p ++ tail))) ≡ p ++ tail = drop_past m q t (p ++ tail) lq in (
      subst (P d) (sym after) h,
      (same_leg (location_at a l) d (take m (drop (suc m) (q ++ (t ∷ (p ++ tail))))) p (number_at m (q ++ (t ∷ (p ++ tail)))) t (take m (q ++ (t ∷ (p ++ tail)))) q
          (ap (take m) after ∙ take_here m p tail lp) (number_here m q t (p ++ tail) lq) (take_here m q (t ∷ (p ++ tail)) lq)).1 leg,
    )

jump_put : (a : Automaton) (l e : ℕ) (P : ℤ → List ℤ → Type 0) (d : ℤ) (p q tail : List ℤ) → length p ≡ width a → length q ≡ width a →
    P d (p ++ tail) → (transition_at a e).source ≡ l → IsJump a e d p q → JumpAfter a l e P d (q ++ (p ++ tail))
jump_put a l e P d p q tail lp lq h source jump =
    let m : ℕ = width a in
    let after : drop m (q ++ (p ++ tail)) ≡ p ++ tail = drop_here m q (p ++ tail) lq in (
      subst (P d) (sym after) h,
      source,
      (same_jump a e d (take m (drop m (q ++ (p ++ tail)))) p (take m (q ++ (p ++ tail))) q (ap (take m) after ∙ take_here m p tail lp) (take_here m q (p ++ tail) lq)).1 jump,
    )

pub path_in : (a : Automaton) (l : ℕ) (P : ℤ → List ℤ → Type 0) (d : ℤ) (p : List ℤ) (ms : List Move) (f : Leg) (tail : List ℤ) → length p ≡ width a → LeadOn a d l p ms f →
    P d (p ++ tail) → PathFrom a l (transitions ms) P d (f.at_end ++ (backwards p ms f ++ tail))
path_in a l P d p [] f tail lp h before = leg_put a l P d p f.length_of f.at_end tail lp (h.same_size ∙ lp) before h
path_in a l P d p (y ∷ ms) f tail lp h before =
    let q : List ℤ = y.leg.at_end in
    let t : ℤ = y.leg.length_of in
    let e : ℕ = y.transition in
    let lq : length q ≡ width a = h.0.same_size ∙ lp in
    let la : length y.after ≡ width a = h.2.same_size ∙ lq in
    let leg = leg_put a l P d p t q tail lp lq before h.0 in
    let r = path_in a (transition_at a e).target (JumpAfter a l e (LegAfter a l P)) d y.after ms f (q ++ (t ∷ (p ++ tail))) la h.3
    (jump_put a l e (LegAfter a l P) d q y.after (t ∷ (p ++ tail)) lq la leg h.1 h.2) in
    subst (λ xs. PathFrom a l (transitions (y ∷ ms)) P d (f.at_end ++ xs)) (regroup (backwards y.after ms f) q (t ∷ p) tail) r

-- ---- to the numbers of a gap

pub lead_sized : (a : Automaton) (d : ℤ) (l : ℕ) (p : List ℤ) (ms : List Move) (f : Leg) → length p ≡ width a → LeadOn a d l p ms f → length f.at_end ≡ width a
lead_sized a d l p [] f lp h = h.same_size ∙ lp
lead_sized a d l p (y ∷ ms) f lp h = lead_sized a d (transition_at a y.transition).target y.after ms f (h.2.same_size ∙ h.0.same_size ∙ lp) h.3

pub gap_in : (a : Automaton) (k : ℕ) (duration : Fraction) (s : Sample) (P : ℤ → List ℤ → Type 0) (g : GapRun) (tail : List ℤ) → length g.start ≡ width a → length g.moves ≤ k →
    IsGapRun a duration g → IsPassing a s.cells (end_point g) → P g.den (g.start ++ tail) →
    GapFrom a k g.start_loc (path_of g) duration s.cells P g.den (g.last.at_end ++ (backwards g.start g.moves g.last ++ tail))
gap_in a k duration s P g tail lp few is passes before =
    let m : ℕ = width a in
    let lq = lead_sized a g.den g.start_loc g.start g.moves g.last lp is.leads in
    let sum = total_elapsed a g.den g.start_loc [] g.start g.moves g.last tail lp is.leads in
    let sum' : dot (elapsed m (path_of g) []) (g.last.at_end ++ (backwards g.start g.moves g.last ++ tail)) ≡ total g.moves g.last = sum ∙ omega (arith, ints) in (
      omega (arith, few, length-map g.moves (λ x. x.transition)),
      (
        path_in a g.start_loc P g.den g.start g.moves g.last tail lp is.leads before,
        (
          subst (λ z. SameFraction (record { num = z; den = g.den }) duration) (sym sum') is.lasts,
          subst (λ q. IsPassing a s.cells (over g.den q)) (sym (take_here m g.last.at_end (backwards g.start g.moves g.last ++ tail) lq)) passes,
        ),
      ),
    )

-- ---- to the numbers of all gaps

-- the numbers p over d are those where the gaps start
pub record StartsFrom (a : Automaton) (l : ℕ) (d : ℤ) (p : List ℤ) (before : Place) : Type 0 where
  pub loc : before.loc ≡ l
  pub positive : pos 0 <ℤ before.point.den
  pub point : SamePoint (over d p) before.point
  pub sized : length p ≡ width a

pub gaps_in : (a : Automaton) (k l : ℕ) (before : Place) (t : Fraction) (ss : List Sample) (gs : List GapRun) (P : ℤ → List ℤ → Type 0) (d : ℤ) (p tail : List ℤ) →
    StartsFrom a l d p before → pos 0 <ℤ d → AllOver d gs → Follows a k before t ss gs → P d (p ++ tail) →
    GapsFrom a k l t ss (map path_of gs) P d (ends p gs ++ (backs gs ++ tail))
gaps_in a k l before t [] [] P d p tail from hd dens h at = at
gaps_in a k l before t [] (g ∷ gs) P d p tail from hd dens h at = absurd h
gaps_in a k l before t (s ∷ ss) [] P d p tail from hd dens h at = absurd h
gaps_in a k l before t (s ∷ ss) (g ∷ gs) P d p tail from hd dens h at =
    let den : g.den ≡ d = dens.0 in
    let scaled_same : scaled before.point.den g.start ≡ scaled before.point.den p = h.0.same_point ∙ ap (λ x. scaled x before.point.num) den ∙ sym from.point in
    let start : g.start ≡ p = same_list before.point.den g.start p from.positive scaled_same in
    let loc : g.start_loc ≡ l = h.0.same_loc ∙ from.loc in
    let gap : GapRun = gap_at d l p g.moves g.last in
    let same : g ≡ gap = λ i. record { den = den i; start_loc = loc i; start = start i; moves = g.moves; last = g.last } in
    let run : IsGapRun a (difference s.time t) gap = subst (IsGapRun a (difference s.time t)) same h.0.gap_run in
    let passes : IsPassing a s.cells (end_point gap) = subst (λ (x : GapRun). IsPassing a s.cells (end_point x)) same h.0.passes in
    let b : List ℤ = backwards p g.moves g.last in
    let here = gap_in a k (difference s.time t) s P gap tail from.sized h.0.few run passes at in
    let later : Follows a k (end_of a gap) s.time ss gs = subst (λ (x : GapRun). Follows a k (end_of a x) s.time ss gs) same h.1 in
    let r = gaps_in a k (end_loc a l (path_of gap)) (end_of a gap) s.time ss gs (GapFrom a k l (path_of gap) (difference s.time t) s.cells P) d g.last.at_end (b ++ tail)
    (record { loc = refl; positive = hd; point = refl; sized = lead_sized a d l p g.moves g.last from.sized run.leads }) hd dens.1 later here in
    subst (λ xs. GapsFrom a k l t (s ∷ ss) (map path_of (g ∷ gs)) P d (ends g.last.at_end gs ++ xs))
    (sym (append_assoc (backs gs) b tail) ∙ ap (λ q. (backs gs ++ backwards q g.moves g.last) ++ tail) (sym start)) r
