-- A run whose gaps are written over other denominators: over one for all gaps, or each over its least.
use Rattle.std.proofs.Common.{◌≡◌, inl, inr, ℕ, suc, ◌+◌, ◌≤◌, List, [], ◌∷◌, ◌++◌, length, length-append, length-take, append_assoc, take, drop, map, refl, sym, ◌∙◌, ap, subst, arith, ℤ, pos, ◌*ℤ◌, ◌<ℤ◌}
use Rattle.std.specs.Prelude.{All}
use Rattle.std.specs.List.{AllZip}
use Rattle.std.proofs.lemmas.Int.{ints}
use Rattle.std.proofs.lemmas.List.{append-nil, drop_all, length-map}
use Rattle.poly_specs.proofs.IntLemmas.{products, product_positive}
use Rattle.poly_specs.proofs.LinearLemmas.{SamePoint-trans}
use Rattle.run_specs.proofs.MixLemmas.{transitions}
use Rattle.run_specs.proofs.MixRuns.{length-same_point}
use Rattle.run_specs.proofs.FirstRunLemmas.{scaled-append, split_same}
use Rattle.run_specs.proofs.SystemLemmas.{at_same_point, always}
use Rattle.run_specs.proofs.HistorySystems.{GapFrom, path_columns, gaps_columns, gap_system, AreCells}
use Rattle.run_specs.proofs.HistoryRuns.{backs, ends, gap_at, gap_in, gap_out, lead_sized}
use Rattle.poly_specs.specs.Lists.{In, scaled}
use Rattle.poly_specs.specs.Fractions.{Fraction, difference}
use Rattle.poly_specs.specs.Rows.{Point, over, SamePoint}
use Rattle.run_specs.specs.Automaton.{Automaton, width, transition_at}
use Rattle.run_specs.specs.WellFormed.{IsLocation}
use Rattle.run_specs.specs.Logs.{Sample, IsPassing}
use Rattle.run_specs.specs.Runs.{Leg, Move, GapRun, Place, LeadOn, IsGapRun, Follows, path_of, end_of, end_loc, end_point, start_point}
use Rattle.run_specs.specs.FirstRun.{backwards}

-- all numbers of a gap run
abbrev pub numbers_of : GapRun → List ℤ
numbers_of g = g.last.at_end ++ backwards g.start g.moves g.last

-- the same gap run over another denominator
pub record IsRespelled (g h : GapRun) : Type 0 where
  pub loc : h.start_loc ≡ g.start_loc
  pub path : path_of h ≡ path_of g
  pub positive : pos 0 <ℤ h.den
  pub start : SamePoint (start_point g) (start_point h)
  pub end : SamePoint (end_point g) (end_point h)
  pub back : SamePoint (over g.den (backwards g.start g.moves g.last)) (over h.den (backwards h.start h.moves h.last))

-- ---- how many numbers there are

path_count : (a : Automaton) (d : ℤ) (l : ℕ) (p : List ℤ) (ms : List Move) (f : Leg) (tail : List ℤ) → length p ≡ width a → LeadOn a d l p ms f →
    length (f.at_end ++ (backwards p ms f ++ tail)) ≡ path_columns (width a) (transitions ms) (length (p ++ tail))
path_count a d l p [] f tail lp h = omega (arith, h.same_size, lp, length-append f.at_end (f.length_of ∷ (p ++ tail)))
path_count a d l p (y ∷ ms) f tail lp h =
    let m : ℕ = width a in
    let q : List ℤ = y.leg.at_end in
    let u : List ℤ = y.leg.length_of ∷ p in
    let b : List ℤ = backwards y.after ms f in
    let lq : length q ≡ m = h.0.same_size ∙ lp in
    let la : length y.after ≡ m = h.2.same_size ∙ lq in
    let r = path_count a d (transition_at a y.transition).target y.after ms f (q ++ (u ++ tail)) la h.3 in
    let n : length (y.after ++ (q ++ (u ++ tail))) ≡ m + (suc m + length (p ++ tail)) =
    omega (arith, length-append y.after (q ++ (u ++ tail)), length-append q (u ++ tail), length-append u tail, length-append p tail, lq, la) in
    let same : b ++ (q ++ (u ++ tail)) ≡ ((b ++ q) ++ u) ++ tail = sym (append_assoc b q (u ++ tail)) ∙ sym (append_assoc (b ++ q) u tail) in
    ap (λ xs. length (f.at_end ++ xs)) (sym same) ∙ r ∙ ap (path_columns m (transitions ms)) n

pub gaps_count : (a : Automaton) (k : ℕ) (before : Place) (t : Fraction) (ss : List Sample) (gs : List GapRun) (p tail : List ℤ) → length p ≡ width a →
    Follows a k before t ss gs → ((g : GapRun) → In g gs → length g.start ≡ width a) → length (ends p gs ++ (backs gs ++ tail)) ≡ gaps_columns (width a) (map path_of gs) (length (p ++ tail))
gaps_count a k before t [] [] p tail lp h starts = refl
gaps_count a k before t [] (g ∷ gs) p tail lp h starts = absurd h
gaps_count a k before t (s ∷ ss) [] p tail lp h starts = absurd h
gaps_count a k before t (s ∷ ss) (g ∷ gs) p tail lp h starts =
    let m : ℕ = width a in
    let ls = starts g (inl refl) in
    let le = lead_sized a g.den g.start_loc g.start g.moves g.last ls h.0.gap_run.leads in
    let b : List ℤ = backwards g.start g.moves g.last in
    let r = gaps_count a k (end_of a g) s.time ss gs g.last.at_end (b ++ tail) le h.1 (λ x i. starts x (inr i)) in
    let n = path_count a g.den g.start_loc g.start g.moves g.last tail ls h.0.gap_run.leads in
    let l : length (g.start ++ tail) ≡ length (p ++ tail) = omega (arith, length-append g.start tail, length-append p tail, ls, lp) in
    ap (λ xs. length (ends g.last.at_end gs ++ xs)) (append_assoc (backs gs) b tail) ∙ r ∙ ap (gaps_columns m (map path_of gs)) (n ∙ ap (path_columns m (path_of g)) l)

-- ---- one gap

-- the start values stand last
start_last : (p : List ℤ) (ms : List Move) (f : Leg) → (front : List ℤ) × (backwards p ms f ≡ front ++ p)
start_last p [] f = (f.length_of ∷ [], refl)
start_last p (y ∷ ms) f =
    let b : List ℤ = backwards y.after ms f ++ y.leg.at_end in
    (b ++ (y.leg.length_of ∷ []), sym (append_assoc b (y.leg.length_of ∷ []) p))

start_same : (d c : ℤ) (p u : List ℤ) (ms ns : List Move) (f g : Leg) → length p ≡ length u → SamePoint (over d (backwards p ms f)) (over c (backwards u ns g)) → SamePoint (over d p) (over c u)
start_same d c p u ms ns f g l e =
    let x = start_last p ms f in
    let y = start_last u ns g in
    let long = length-same_point (over d (backwards p ms f)) (over c (backwards u ns g)) e in
    let fronts : length x.0 ≡ length y.0 = omega (arith, long, ap length x.1, ap length y.1, length-append x.0 p, length-append y.0 u, l) in
    let both : scaled c x.0 ++ scaled c p ≡ scaled d y.0 ++ scaled d u =
    sym (scaled-append c x.0 p) ∙ ap (scaled c) (sym x.1) ∙ e ∙ ap (scaled d) y.1 ∙ scaled-append d y.0 u in
    (split_same (scaled c x.0) (scaled d y.0) (scaled c p) (scaled d u) (length-map x.0 (λ n. n *ℤ c) ∙ fronts ∙ sym (length-map y.0 (λ n. n *ℤ d))) both).1

-- a gap run with these numbers
pub record Respelled (a : Automaton) (k : ℕ) (duration : Fraction) (s : Sample) (g : GapRun) (q : Point) : Type 0 where
  pub gap : GapRun
  pub is : IsRespelled g gap
  pub den : gap.den ≡ q.den
  pub numbers : numbers_of gap ≡ q.num
  pub few : length gap.moves ≤ k
  pub gap_run : IsGapRun a duration gap
  pub passes : IsPassing a s.cells (end_point gap)

pub respelled : (a : Automaton) (k : ℕ) (duration : Fraction) (s : Sample) (g : GapRun) (q : Point) → All (IsLocation (width a)) a.locations → AreCells a s.cells →
    length g.start ≡ width a → length g.moves ≤ k → IsGapRun a duration g → IsPassing a s.cells (end_point g) → pos 0 <ℤ q.den → SamePoint (over g.den (numbers_of g)) q →
    Respelled a k duration s g q
respelled a k duration s g q locs are lp few run passes hq same =
    let m : ℕ = width a in
    let Anywhere : ℤ → List ℤ → Type 0 = λ d ns. Unit {0} in
    let P : ℤ → List ℤ → Type 0 = GapFrom a k g.start_loc (path_of g) duration s.cells Anywhere in
    let b : List ℤ = backwards g.start g.moves g.last in
    let plain : g.last.at_end ++ (b ++ []) ≡ numbers_of g = ap (λ xs. g.last.at_end ++ xs) (append-nil b) in
    let here : P g.den (numbers_of g) = subst (P g.den) plain (gap_in a k duration s Anywhere g [] lp few run passes tt) in
    let N : ℕ = path_columns m (path_of g) m in
    let long : length (numbers_of g) ≡ N =
    ap length (sym plain) ∙ path_count a g.den g.start_loc g.start g.moves g.last [] lp run.leads ∙ ap (path_columns m (path_of g)) (omega (arith, length-append g.start [], lp)) in
    let long_q : length q.num ≡ N = sym (length-same_point (over g.den (numbers_of g)) q same) ∙ long in
    let sys = gap_system a locs k g.start_loc (path_of g) duration s.cells m Anywhere are (omega arith) (always m) in
    let there : P q.den q.num = at_same_point N P sys g.den q.den (numbers_of g) q.num run.positive hq long long_q same here in
    let r = gap_out a k g.start_loc (path_of g) duration s m Anywhere q.den q.num (omega arith) long_q hq there in
    let p : List ℤ = take m r.parts.rest in
    let lr : length p ≡ m = omega (arith, length-take m r.parts.rest, r.parts.long) in
    let none : drop m r.parts.rest ≡ [] = drop_all m r.parts.rest (omega (arith, r.parts.long)) in
    let gap : GapRun = gap_at q.den g.start_loc p r.parts.moves r.parts.last in
    let c : List ℤ = backwards p r.parts.moves r.parts.last in
    let spelt : q.num ≡ numbers_of gap = r.parts.numbers ∙ ap (λ xs. r.parts.last.at_end ++ (c ++ xs)) none ∙ ap (λ xs. r.parts.last.at_end ++ xs) (append-nil c) in
    let le : length g.last.at_end ≡ m = lead_sized a g.den g.start_loc g.start g.moves g.last lp run.leads in
    let all : scaled q.den g.last.at_end ++ scaled q.den b ≡ scaled g.den r.parts.last.at_end ++ scaled g.den c =
    sym (scaled-append q.den g.last.at_end b) ∙ same ∙ ap (scaled g.den) spelt ∙ scaled-append g.den r.parts.last.at_end c in
    let parts = split_same (scaled q.den g.last.at_end) (scaled g.den r.parts.last.at_end) (scaled q.den b) (scaled g.den c)
    (length-map g.last.at_end (λ n. n *ℤ q.den) ∙ le ∙ sym r.parts.sized ∙ sym (length-map r.parts.last.at_end (λ n. n *ℤ g.den))) all in
    record {
      gap = gap;
      is = record {
        loc = refl;
        path = r.parts.path_is;
        positive = hq;
        start = start_same g.den q.den g.start p g.moves r.parts.moves g.last r.parts.last (lp ∙ sym lr) parts.1;
        end = parts.0;
        back = parts.1;
      };
      den = refl;
      numbers = sym spelt;
      few = r.few;
      gap_run = r.gap_run;
      passes = r.passes;
    }

-- ---- all gaps

-- the point is another spelling of the numbers of the gap run
pub record IsSpelling (g : GapRun) (q : Point) : Type 0 where
  pub positive : pos 0 <ℤ q.den
  pub same : SamePoint (over g.den (numbers_of g)) q

-- the gap run is written as this point
pub record IsWritten (g : GapRun) (q : Point) : Type 0 where
  pub den : g.den ≡ q.den
  pub numbers : numbers_of g ≡ q.num

-- two places that differ in their spelling alone
pub record AreSpelled (a : Automaton) (p q : Place) : Type 0 where
  pub loc : q.loc ≡ p.loc
  pub sized : length p.point.num ≡ width a
  pub positive : pos 0 <ℤ p.point.den
  pub other_positive : pos 0 <ℤ q.point.den
  pub point : SamePoint p.point q.point

pub record GapsRespelled (a : Automaton) (k : ℕ) (before : Place) (t : Fraction) (ss : List Sample) (gs : List GapRun) (qs : List Point) : Type 0 where
  pub gaps : List GapRun
  pub follows : Follows a k before t ss gaps
  pub same : AllZip IsRespelled gs gaps
  pub written : AllZip IsWritten gaps qs

pub gaps_respelled : (a : Automaton) (k : ℕ) (p q : Place) (t : Fraction) (ss : List Sample) (gs : List GapRun) (qs : List Point) → All (IsLocation (width a)) a.locations →
    ((s : Sample) → In s ss → AreCells a s.cells) → AreSpelled a p q → Follows a k p t ss gs → AllZip IsSpelling gs qs → GapsRespelled a k q t ss gs qs
gaps_respelled a k p q t [] [] [] locs are is h spell = record { gaps = []; follows = tt; same = tt; written = tt }
gaps_respelled a k p q t ss [] (x ∷ qs) locs are is h spell = absurd spell
gaps_respelled a k p q t ss (g ∷ gs) [] locs are is h spell = absurd spell
gaps_respelled a k p q t [] (g ∷ gs) (x ∷ qs) locs are is h spell = absurd h
gaps_respelled a k p q t (s ∷ ss) [] [] locs are is h spell = absurd h
gaps_respelled a k p q t (s ∷ ss) (g ∷ gs) (x ∷ qs) locs are is h spell =
    let lp : length g.start ≡ width a = length-same_point (start_point g) p.point h.0.same_point ∙ is.sized in
    let r = respelled a k (difference s.time t) s g x locs (are s (inl refl)) lp h.0.few h.0.gap_run h.0.passes spell.0.positive spell.0.same in
    let le : length g.last.at_end ≡ width a = h.0.passes.sized in
    let rest = gaps_respelled a k (end_of a g) (end_of a r.gap) s.time ss gs qs locs (λ y i. are y (inr i))
    (record {
      loc = ap (λ l. end_loc a l (path_of r.gap)) r.is.loc ∙ ap (λ w. end_loc a g.start_loc w) r.is.path;
      sized = le;
      positive = h.0.gap_run.positive;
      other_positive = r.is.positive;
      point = r.is.end;
    }) h.1 spell.1 in
    record {
      gaps = r.gap ∷ rest.gaps;
      follows = (
        record {
          same_loc = r.is.loc ∙ h.0.same_loc ∙ sym is.loc;
          same_point = SamePoint-trans (start_point r.gap) (start_point g) q.point h.0.gap_run.positive (sym r.is.start)
              (SamePoint-trans (start_point g) p.point q.point is.positive h.0.same_point is.point);
          few = r.few;
          gap_run = r.gap_run;
          passes = r.passes;
        },
        rest.follows,
      );
      same = (r.is, rest.same);
      written = (record { den = r.den; numbers = r.numbers }, rest.written);
    }

-- ---- one denominator for all gaps

-- the product of the denominators
abbrev pub product : List GapRun → ℤ
product [] = pos 1
product (g ∷ gs) = g.den *ℤ product gs

-- the denominators are positive
abbrev pub AllPositive : List GapRun → Type 0
AllPositive [] = Unit {0}
AllPositive (g ∷ gs) = (pos 0 <ℤ g.den) × AllPositive gs

pub product_is_positive : (gs : List GapRun) → AllPositive gs → pos 0 <ℤ product gs
product_is_positive [] h = omega (arith, ints)
product_is_positive (g ∷ gs) h = product_positive g.den (product gs) h.0 (product_is_positive gs h.1)

-- the gaps' numbers over the product, times a factor
abbrev pub commons : ℤ → List GapRun → List Point
commons e [] = []
commons e (g ∷ gs) = over (e *ℤ (g.den *ℤ product gs)) (scaled (e *ℤ product gs) (numbers_of g)) ∷ commons (e *ℤ g.den) gs

abbrev pub AllOf : ℤ → List Point → Type 0
AllOf d [] = Unit {0}
AllOf d (q ∷ qs) = (q.den ≡ d) × AllOf d qs

scaled_twice : (d e f : ℤ) (ns : List ℤ) → e ≡ d *ℤ f → scaled e ns ≡ scaled d (scaled f ns)
scaled_twice d e f [] h = refl
scaled_twice d e f (n ∷ ns) h =
    let a : n *ℤ e ≡ (n *ℤ f) *ℤ d = ap (λ z. n *ℤ z) h ∙ omega (arith, products) in let r = scaled_twice d e f ns h in cc

pub commons_spell : (e : ℤ) (gs : List GapRun) → pos 0 <ℤ e → AllPositive gs → AllZip IsSpelling gs (commons e gs)
commons_spell e [] he h = tt
commons_spell e (g ∷ gs) he h =
    let hp = product_is_positive gs h.1 in (
      record {
        positive = product_positive e (g.den *ℤ product gs) he (product_positive g.den (product gs) h.0 hp);
        same = scaled_twice g.den (e *ℤ (g.den *ℤ product gs)) (e *ℤ product gs) (numbers_of g) (omega (arith, products));
      },
      commons_spell (e *ℤ g.den) gs (product_positive e g.den he h.0) h.1,
    )

pub commons_over : (e d : ℤ) (gs : List GapRun) → d ≡ e *ℤ product gs → AllOf d (commons e gs)
commons_over e d [] h = tt
commons_over e d (g ∷ gs) h = (sym h, commons_over (e *ℤ g.den) d gs (h ∙ omega (arith, products)))
