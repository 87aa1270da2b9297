-- From every place some lines lead to the end of a text.
use Rattle.std.proofs.Common.{◌≡◌, ℕ, Bool, false, List, [], ◌∷◌, ◌++◌, Some, refl, sym, subst}
use Rattle.std.specs.Prelude.{codes}
use Rattle.std.specs.Bool.{⊤}
use Rattle.lang_specs.specs.declared.Kind.TheVariants as kinds
use Rattle.lang_specs.specs.Marks.{Mark, the, a_name, a_number, Lined, statement}
use Rattle.lang_specs.specs.Trees.{BoxTree}
use Rattle.lang_specs.specs.Examples.{box, whole}
use Rattle.lang_specs.specs.Expressions.{signed, IsBox}
use Rattle.lang_specs.specs.Grammar.{version}
use Rattle.lang_specs.proofs.ExampleSpelling.{box_tokens, slope_is}
use Rattle.lang_specs.proofs.ExampleFaults.{flow_is}
use Rattle.lang_order.specs.declared.Place.{Place}
use Rattle.lang_order.specs.declared.Place.TheVariants as places
use Rattle.lang_order.specs.Statements.{Statement, Version, Automaton, Vars, Obs, Loc, Init, Inv, Flow, Also, Trans, End, first_word, IsBody, Numbered}
use Rattle.lang_order.specs.Order.{next}
use Rattle.lang_order.specs.LineLimits.{Counts, none_yet, count, counts_from}
use Rattle.lang_order.proofs.ToGrammar.{none_some, some_is}
use Rattle.lang_order.proofs.Walks.{Walk}

-- ---- the shortest statements

abbrev pub x : List ℕ
x = codes "x"

abbrev pub still_box : BoxTree
still_box = box x (signed false (whole 0)) (whole 0)

abbrev pub still_body : List Mark
still_body = box_tokens x false (codes "0") (codes "0")

still_is : IsBox still_body still_box
still_is = slope_is x false (codes "0") (codes "0") (whole 0) (whole 0) flow_is flow_is

-- The shortest statements may be asked for where the counts before allow it (K), and what was asked of a statement keeps the
-- counts so.
pub record Completes (G : Counts → List Mark → Statement → Type 0) (K : Counts → Type 0) : Type 0 where
  pub begins : K none_yet
  pub stays : (c : Counts) (ms : List Mark) (s : Statement) → G c ms s → K (count c (first_word s))
  pub lha : G none_yet (the kinds.Lha ∷ a_number (version false) ∷ []) (Version false)
  pub automaton : G none_yet (the kinds.Automaton ∷ a_name x ∷ []) (Automaton x)
  pub vars : (c : Counts) → K c → G c (the kinds.Var ∷ a_name x ∷ []) (Vars (x ∷ []))
  pub loc : (c : Counts) → K c → c.locs ≡ 0 → G c (the kinds.Loc ∷ a_name x ∷ []) (Loc x false)
  pub flow : (c : Counts) → K c → G c (the kinds.Flow ∷ still_body) (Flow (still_box ∷ []))
  pub last : (c : Counts) → K c → G c (the kinds.End ∷ []) End

-- ---- what the counts are at a place

abbrev pub Fits : Place → Counts → Type 0
Fits places.Start c = c ≡ none_yet
Fits places.Lha c = c ≡ none_yet
Fits places.Automaton c = c.locs ≡ 0
Fits places.Var c = c.locs ≡ 0
Fits places.Obs c = c.locs ≡ 0
Fits p c = ⊤

fits_at : (p q : Place) (c : Counts) → Some p ≡ Some q → Fits p c → Fits q c
fits_at p q c e f = subst (λ z. Fits z c) (some_is p q e) f

pub fits_next : (p q : Place) (c : Counts) (s : Statement) → next p (first_word s) ≡ Some q → Fits p c → Fits q (count c (first_word s))
fits_next places.Start q c (Version v) e f = fits_at places.Lha q c e f
fits_next places.Lha q c (Automaton name) e f = fits_at places.Automaton q (count c kinds.Automaton) e refl
fits_next places.End q c (Automaton name) e f = fits_at places.Automaton q (count c kinds.Automaton) e refl
fits_next places.Automaton q c (Vars names) e f = fits_at places.Var q c e f
fits_next places.Var q c (Obs bounds) e f = fits_at places.Obs q c e f
fits_next places.Var q c (Loc name u) e f = fits_at places.Loc q (count c kinds.Loc) e tt
fits_next places.Obs q c (Loc name u) e f = fits_at places.Loc q (count c kinds.Loc) e tt
fits_next places.Loc q c (Init rows) e f = fits_at places.Init q c e tt
fits_next places.Loc q c (Inv rows) e f = fits_at places.Inv q c e tt
fits_next places.Loc q c (Flow boxes) e f = fits_at places.Flow q c e tt
fits_next places.Init q c (Inv rows) e f = fits_at places.Inv q c e tt
fits_next places.Init q c (Flow boxes) e f = fits_at places.Flow q c e tt
fits_next places.Inv q c (Flow boxes) e f = fits_at places.Flow q c e tt
fits_next places.Flow q c (Also rows) e f = fits_at places.Also q c e tt
fits_next places.Flow q c (Loc name u) e f = fits_at places.Loc q (count c kinds.Loc) e tt
fits_next places.Flow q c (Trans a b l g h) e f = fits_at places.Trans q (count c kinds.Trans) e tt
fits_next places.Flow q c End e f = fits_at places.End q c e tt
fits_next places.Also q c (Loc name u) e f = fits_at places.Loc q (count c kinds.Loc) e tt
fits_next places.Also q c (Trans a b l g h) e f = fits_at places.Trans q (count c kinds.Trans) e tt
fits_next places.Also q c End e f = fits_at places.End q c e tt
fits_next places.Trans q c (Trans a b l g h) e f = fits_at places.Trans q (count c kinds.Trans) e tt
fits_next places.Trans q c End e f = fits_at places.End q c e tt
fits_next p q c s e f = none_some q e

pub fits_behind : (G : Counts → List Mark → Statement → Type 0) (v : Bool) (p : Place) (c : Counts) (ls : List Lined) (ss : List Numbered) (q : Place) →
    Walk G v p c ls ss q → Fits p c → Fits q (counts_from c ss)
fits_behind G v p c ls [] q (e, f) k = subst (λ z. Fits z c) f k
fits_behind G v p c ls (s ∷ ss) q (body, rest, r, e, b, g, d, w) k =
    fits_behind G v r (count c (first_word s.says)) rest ss q w (fits_next p r c s.says d k)

-- ---- the shortest lines

pub record Finished (G : Counts → List Mark → Statement → Type 0) (v : Bool) (p : Place) (c : Counts) : Type 0 where
  pub lines : List Lined
  pub says : List Numbered
  pub walk : Walk G v p c lines says places.End

module _ (G : Counts → List Mark → Statement → Type 0) (K : Counts → Type 0) (ok : Completes G K) (v : Bool) where
  pub one_more : (p q : Place) (c : Counts) (n : ℕ) (s : Statement) (body : List Mark) → IsBody v body s → G c (the (first_word s) ∷ body) s →
      next p (first_word s) ≡ Some q → Finished G v q (count c (first_word s)) → Finished G v p c
  one_more p q c n s body b g d f = record {
    lines = statement n (the (first_word s) ∷ body) ++ f.lines;
    says = record { line = n; says = s } ∷ f.says;
    walk = (body, f.lines, q, refl, b, g, d, f.walk);
  }

  nothing_more : (c : Counts) → Finished G v places.End c
  nothing_more c = record { lines = []; says = []; walk = (refl, refl) }

  end_from : (p : Place) (c : Counts) → next p kinds.End ≡ Some places.End → K c → Finished G v p c
  end_from p c d k = one_more p places.End c 0 End [] refl (ok.last c k) d (nothing_more c)

  flow_from : (p : Place) (c : Counts) → next p kinds.Flow ≡ Some places.Flow → K c → Finished G v p c
  flow_from p c d k =
      let g = ok.flow c k in
      one_more p places.Flow c 0 (Flow (still_box ∷ [])) still_body still_is g d (end_from places.Flow c refl k)

  loc_from : (p : Place) (c : Counts) → next p kinds.Loc ≡ Some places.Loc → c.locs ≡ 0 → K c → Finished G v p c
  loc_from p c d few k =
      let g = ok.loc c k few in
      one_more p places.Loc c 0 (Loc x false) (a_name x ∷ []) refl g d
      (flow_from places.Loc (count c kinds.Loc) refl (ok.stays c (the kinds.Loc ∷ a_name x ∷ []) (Loc x false) g))

  vars_from : (c : Counts) → c.locs ≡ 0 → K c → Finished G v places.Automaton c
  vars_from c few k =
      one_more places.Automaton places.Var c 0 (Vars (x ∷ [])) (a_name x ∷ []) refl (ok.vars c k) refl (loc_from places.Var c refl few k)

  automaton_from : Finished G v places.Lha none_yet
  automaton_from =
      one_more places.Lha places.Automaton none_yet 0 (Automaton x) (a_name x ∷ []) refl ok.automaton refl
      (vars_from (count none_yet kinds.Automaton) refl (ok.stays none_yet (the kinds.Automaton ∷ a_name x ∷ []) (Automaton x) ok.automaton))

  pub finish : (p : Place) (c : Counts) → Fits p c → K c → Finished G v p c
  finish places.Start c f k =
      subst (Finished G v places.Start) (sym f)
      (one_more places.Start places.Lha none_yet 0 (Version false) (a_number (version false) ∷ []) refl ok.lha refl automaton_from)
  finish places.Lha c f k = subst (Finished G v places.Lha) (sym f) automaton_from
  finish places.Automaton c f k = vars_from c f k
  finish places.Var c f k = loc_from places.Var c refl f k
  finish places.Obs c f k = loc_from places.Obs c refl f k
  finish places.Loc c f k = flow_from places.Loc c refl k
  finish places.Init c f k = flow_from places.Init c refl k
  finish places.Inv c f k = flow_from places.Inv c refl k
  finish places.Flow c f k = end_from places.Flow c refl k
  finish places.Also c f k = end_from places.Also c refl k
  finish places.Trans c f k = end_from places.Trans c refl k
  finish places.End c f k = nothing_more c
