-- A list of constraints keeps to its limits exactly where the reader finds room.
use Rattle.std.proofs.Common.{◌≡◌, ℕ, suc, ◌+◌, ◌≤◌, Bool, true, false, if◌then◌else◌, ◌&&◌, List, [], ◌∷◌, ◌++◌, length, Option, Some, None, refl, sym, ap, ◌∙◌, subst, arith}
use Rattle.std.specs.Prelude.{nat_le}
use Rattle.std.specs.List.{list_all, sum_by}
use Rattle.std.proofs.Math.Bool.{and-true}
use Rattle.std.proofs.lemmas.Bool.{leb-true, le-leb}
use Rattle.std.proofs.lemmas.List.{length-append}
use Rattle.std.proofs.lemmas.List.Sums.{sum_by-cons, sum_by-append}
use Rattle.lang_specs.specs.declared.Which.{Which}
use Rattle.lang_specs.specs.declared.Which.TheVariants.{Automata, Variables, Locations, Transitions, Rows, Terms, NameBytes, Digits}
use Rattle.lang_specs.specs.declared.Sign.{Sign}
use Rattle.lang_specs.specs.declared.Sign.TheVariants as signs
use Rattle.lang_specs.specs.Marks.{Mark}
use Rattle.lang_specs.specs.Trees.{RowTree}
use Rattle.lang_specs.specs.Limits.{rows_in, row_count, has_at_most}
use Rattle.lang_tokens.specs.Machines.{Reading, AllValues, LineMachine, fits_on, passed, passed_alone}
use Rattle.lang_tokens.proofs.Walks.{both}
use Rattle.lang_tokens.proofs.LimitLemmas.{both_so}
use Rattle.lang_tokens.proofs.JoinedLaws.{LimitLaws, finish}
use Rattle.lang_rows.specs.Texts.{Term, Row, IsTermValue, IsRowValue}
use Rattle.lang_rows.specs.ExprMachine.{ExprPlace, expr_start, in_expr, made_expr, few_terms, few_at}
use Rattle.lang_rows.specs.RowMachine.{Place, on_left, on_right, compares, by_left, by_right, in_row, row_of, made, rows_at, rows_of, few_rows, few_both, few_there, fits_rows, rows, row_limits, State, at_first, behind_true, true_ended, in_rows, row_line, fits_state}
use Rattle.lang_rows.proofs.ExprLaws.{expr_length, expr_grows, expr_finishes}
use Rattle.lang_rows.proofs.RowLaws.{behind_left_is, row_is, spell_row, said_row, GoodRow, FinePlace, row_finishes, row_laws}

abbrev R : Type 0
R = Reading Place Row

moves : (r s : R) → (fits_rows Rows r ≡ true → fits_rows Rows s ≡ true) → (fits_rows Terms r ≡ true → fits_rows Terms s ≡ true) → (which : Which) → fits_rows which r ≡ true → fits_rows which s ≡ true
moves r s h k Automata f = refl
moves r s h k Variables f = refl
moves r s h k Locations f = refl
moves r s h k Transitions f = refl
moves r s h k Rows f = h f
moves r s h k Terms f = k f
moves r s h k NameBytes f = refl
moves r s h k Digits f = refl

abbrev reading : Bool → List Row → Place → R
reading b done p = record { done = done; place = p; has_ended = b }

start_fits : (which : Which) → fits_rows which (reading false [] (on_left expr_start)) ≡ true
start_fits Automata = refl
start_fits Variables = refl
start_fits Locations = refl
start_fits Transitions = refl
start_fits Rows = refl
start_fits Terms = refl
start_fits NameBytes = refl
start_fits Digits = refl

-- ---- rows

some_rows : (s : Sign) → 1 ≤ rows_in s
some_rows signs.AtMost = omega arith
some_rows signs.AtLeast = omega arith
some_rows signs.Equal = omega arith
some_rows signs.Less = omega arith
some_rows signs.Greater = omega arith

rows_more : (done : List Row) (x : Row) → rows_of (done ++ x ∷ []) ≡ rows_of done + rows_in x.sign
rows_more done x =
    let whole = sum_by-append (λ (r : Row). rows_in r.sign) done (x ∷ []) in
    let one = sum_by-cons (λ (r : Row). rows_in r.sign) x [] in
    whole ∙ ap (λ n. rows_of done + n) one ∙ omega arith

fewer : (m n : ℕ) → m ≤ n → nat_le n 12 ≡ true → nat_le m 12 ≡ true
fewer m n le e = let most = leb-true n 12 e in le-leb m 12 (omega arith)

rows_left : (strict : Bool) (e : ExprPlace) (m : Mark) (q : Place) (o : Option ExprPlace) → by_left strict e m o ≡ Some q → 1 ≤ rows_at q
rows_left strict e m q (Some f) h = let same : on_left f ≡ q = cc in subst (λ x. 1 ≤ rows_at x) same (omega arith)
rows_left strict e m q None h = let b = behind_left_is (made_expr e) (compares strict m) q h in subst (λ x. 1 ≤ rows_at x) b.4 (some_rows b.1)

rows_right : (left : List Term) (s : Sign) (q : Place) (o : Option ExprPlace) → by_right left s o ≡ Some q → rows_in s ≤ rows_at q
rows_right left s q (Some f) h = let same : on_right left s f ≡ q = cc in subst (λ x. rows_in s ≤ rows_at x) same (omega arith)
rows_right left s q None h = absurd cc

rows_grow : (strict : Bool) (p q : Place) (m : Mark) → in_row strict p m ≡ Some q → rows_at p ≤ rows_at q
unfolding in_row
rows_grow strict (on_left e) q m h = rows_left strict e m q (in_expr e m) h
rows_grow strict (on_right left s e) q m h = rows_right left s q (in_expr e m) h

made_rows : (p : Place) (x : Row) → made p ≡ Some x → rows_at p ≡ rows_in x.sign
made_rows (on_left e) x h = absurd cc
made_rows (on_right left s e) x h = let r = row_is left s (made_expr e) x h in ap (λ (z : Row). rows_in z.sign) r.2

over_rows : (done : List Row) (p : Place) (x : Row) (n : ℕ) → made p ≡ Some x → nat_le (rows_of (done ++ x ∷ []) + n) 12 ≡ true → nat_le (rows_of done + rows_at p) 12 ≡ true
over_rows done p x n h e =
    let more = rows_more done x in
    let is = made_rows p x h in
    fewer (rows_of done + rows_at p) (rows_of (done ++ x ∷ []) + n) (omega (arith, more, is)) e

finish_rows : (strict : Bool) (p : Place) → rows_in (row_finishes strict p).1.sign ≡ rows_at p
unfolding row_finishes
finish_rows strict (on_left e) = refl
finish_rows strict (on_right left s e) = refl

finished_rows : (done : List Row) (p : Place) (x : Row) → rows_in x.sign ≡ rows_at p → nat_le (rows_of done + rows_at p) 12 ≡ true → nat_le (rows_of (done ++ x ∷ []) + 0) 12 ≡ true
finished_rows done p x is e = let more = rows_more done x in fewer (rows_of (done ++ x ∷ []) + 0) (rows_of done + rows_at p) (omega (arith, more, is)) e

-- ---- terms

pub and_moves : (a b c : Bool) → (b ≡ true → c ≡ true) → (a && b) ≡ true → (a && c) ≡ true
and_moves a b c h e = let p = both a b e in both_so a c p.0 (h p.1)

pub few_moves : (m n : ℕ) → m ≤ n → nat_le (suc n) 14 ≡ true → nat_le (suc m) 14 ≡ true
few_moves m n le e = let most = leb-true (suc n) 14 e in le-leb (suc m) 14 (omega arith)

pub few_made : (e : ExprPlace) (x : List Term) → made_expr e ≡ Some x → few_terms x ≡ few_at e
few_made e x h = ap (λ n. nat_le n 14) (expr_length e x h)

terms_left : (strict : Bool) (e : ExprPlace) (m : Mark) (q : Place) (o : Option ExprPlace) → in_expr e m ≡ o → by_left strict e m o ≡ Some q → few_there q ≡ true → few_at e ≡ true
terms_left strict e m q (Some f) n h k =
    let same : on_left f ≡ q = cc in
    few_moves (length e.terms) (length f.terms) (expr_grows e f m n) (subst (λ x. few_there x ≡ true) (sym same) k)
terms_left strict e m q None n h k =
    let b = behind_left_is (made_expr e) (compares strict m) q h in
    sym (few_made e b.0 b.2) ∙ (both (few_terms b.0) (few_at expr_start) (subst (λ x. few_there x ≡ true) (sym b.4) k)).0

terms_right : (left : List Term) (s : Sign) (e : ExprPlace) (m : Mark) (q : Place) (o : Option ExprPlace) → in_expr e m ≡ o → by_right left s o ≡ Some q → few_there q ≡ true →
    (few_terms left && few_at e) ≡ true
terms_right left s e m q (Some f) n h k =
    let same : on_right left s f ≡ q = cc in
    and_moves (few_terms left) (few_at f) (few_at e) (few_moves (length e.terms) (length f.terms) (expr_grows e f m n)) (subst (λ x. few_there x ≡ true) (sym same) k)
terms_right left s e m q None n h k = absurd cc

terms_grow : (strict : Bool) (p q : Place) (m : Mark) → in_row strict p m ≡ Some q → few_there q ≡ true → few_there p ≡ true
unfolding in_row
terms_grow strict (on_left e) q m h k = terms_left strict e m q (in_expr e m) refl h k
terms_grow strict (on_right left s e) q m h k = terms_right left s e m q (in_expr e m) refl h k

made_terms : (p : Place) (x : Row) → made p ≡ Some x → few_both x ≡ few_there p
made_terms (on_left e) x h = absurd cc
made_terms (on_right left s e) x h =
    let r = row_is left s (made_expr e) x h in
    sym (ap few_both r.2) ∙ ap (λ b. few_terms left && b) (few_made e r.0 r.1)

all_last : (f : Row → Bool) (xs : List Row) (x : Row) → list_all f (xs ++ x ∷ []) ≡ true → (list_all f xs ≡ true) × (f x ≡ true)
all_last f [] x e = (refl, (both (f x) true e).0)
all_last f (y ∷ xs) x e =
    let p = both (f y) (list_all f (xs ++ x ∷ [])) e in
    let more = all_last f xs x p.1 in
    (both_so (f y) (list_all f xs) p.0 more.0, more.1)

all_more : (f : Row → Bool) (xs : List Row) (x : Row) → list_all f xs ≡ true → f x ≡ true → list_all f (xs ++ x ∷ []) ≡ true
all_more f [] x e h = both_so (f x) true h refl
all_more f (y ∷ xs) x e h = let p = both (f y) (list_all f xs) e in both_so (f y) (list_all f (xs ++ x ∷ [])) p.0 (all_more f xs x p.1 h)

over_terms : (done : List Row) (p : Place) (x : Row) (b : Bool) → made p ≡ Some x → (list_all few_both (done ++ x ∷ []) && b) ≡ true → (list_all few_both done && few_there p) ≡ true
over_terms done p x b h e =
    let last = all_last few_both done x (both (list_all few_both (done ++ x ∷ [])) b e).0 in
    both_so (list_all few_both done) (few_there p) last.0 (sym (made_terms p x h) ∙ last.1)

pub few_more : (terms : List Term) (t : Term) (e : ExprPlace) → e.terms ≡ terms → few_at e ≡ true → few_terms (terms ++ t ∷ []) ≡ true
few_more terms t e is k =
    let one = length-append terms (t ∷ []) in
    let alike = ap length is in
    let most = leb-true (suc (length e.terms)) 14 k in
    le-leb (length (terms ++ t ∷ [])) 14 (omega (arith, one, alike))

finish_terms : (strict : Bool) (p : Place) → few_there p ≡ true → few_both (row_finishes strict p).1 ≡ true
unfolding row_finishes
finish_terms strict (on_left e) k = both_so (few_terms (e.terms ++ (expr_finishes e).1 ∷ [])) true (few_more e.terms (expr_finishes e).1 e refl k) refl
finish_terms strict (on_right left s e) k =
    let p = both (few_terms left) (few_at e) k in
    both_so (few_terms left) (few_terms (e.terms ++ (expr_finishes e).1 ∷ [])) p.0 (few_more e.terms (expr_finishes e).1 e refl p.1)

finished_terms : (done : List Row) (p : Place) (x : Row) → (few_there p ≡ true → few_both x ≡ true) → (list_all few_both done && few_there p) ≡ true → (list_all few_both (done ++ x ∷ []) && true) ≡ true
finished_terms done p x h e =
    let parts = both (list_all few_both done) (few_there p) e in
    both_so (list_all few_both (done ++ x ∷ [])) true (all_more few_both done x parts.0 (h parts.1)) refl

-- ---- what the constraints say

pub alike : {X Y : Type 0} (Value : X → Y → Type 0) (xs : List X) (ys : List Y) → AllValues Value xs ys → length xs ≡ length ys
alike Value [] [] h = refl
alike Value [] (y ∷ ys) h = absurd h
alike Value (x ∷ xs) [] h = absurd h
alike Value (x ∷ xs) (y ∷ ys) h = ap suc (alike Value xs ys h.1)

few_say : (x : Row) (y : RowTree) → IsRowValue x y → few_both x ≡ (has_at_most 14 y.left && has_at_most 14 y.right)
few_say x y (left, sign, right) =
    ap (λ n. nat_le n 14 && few_terms x.right) (alike IsTermValue x.left y.left left) ∙ ap (λ n. has_at_most 14 y.left && nat_le n 14) (alike IsTermValue x.right y.right right)

terms_say : (xs : List Row) (ys : List RowTree) → AllValues IsRowValue xs ys → list_all few_both xs ≡ list_all (λ r. has_at_most 14 r.left && has_at_most 14 r.right) ys
terms_say [] [] h = refl
terms_say [] (y ∷ ys) h = absurd h
terms_say (x ∷ xs) [] h = absurd h
terms_say (x ∷ xs) (y ∷ ys) (h, k) =
    ap (λ b. b && list_all few_both xs) (few_say x y h) ∙ ap (λ b. (has_at_most 14 y.left && has_at_most 14 y.right) && b) (terms_say xs ys k)

rows_say : (xs : List Row) (ys : List RowTree) → AllValues IsRowValue xs ys → rows_of xs ≡ row_count ys
rows_say [] [] h = refl
rows_say [] (y ∷ ys) h = absurd h
rows_say (x ∷ xs) [] h = absurd h
rows_say (x ∷ xs) (y ∷ ys) (h, k) =
    sum_by-cons (λ (r : Row). rows_in r.sign) x xs ∙ ap (λ s. rows_in s + rows_of xs) h.1 ∙ ap (λ n. rows_in y.sign + n) (rows_say xs ys k) ∙ sym (sum_by-cons (λ (r : RowTree). rows_in r.sign) y ys)

end_fits : (which : Which) (p : Place) (xs : List Row) (ys : List RowTree) → AllValues IsRowValue xs ys → fits_rows which (reading true xs p) ≡ row_limits which ys
end_fits Automata p xs ys h = refl
end_fits Variables p xs ys h = refl
end_fits Locations p xs ys h = refl
end_fits Transitions p xs ys h = refl
end_fits Rows p xs ys h = let none : rows_of xs + 0 ≡ rows_of xs = omega arith in ap (λ n. nat_le n 12) (none ∙ rows_say xs ys h)
end_fits Terms p xs ys h = and-true (list_all few_both xs) ∙ terms_say xs ys h
end_fits NameBytes p xs ys h = refl
end_fits Digits p xs ys h = refl

-- behind the end of a line the limit fits where what the constraints say keeps to it
pub end_says : (which : Which) (r : R) (ys : List RowTree) → r.has_ended ≡ true → AllValues IsRowValue r.done ys → fits_rows which r ≡ true → row_limits which ys ≡ true
end_says which r ys ended h f = sym (end_fits which r.place r.done ys h) ∙ subst (λ b. fits_rows which (reading b r.done r.place) ≡ true) ended f

module _ (strict : Bool) where
  pub limit_laws : LimitLaws (rows strict) (finish (rows strict) spell_row said_row (GoodRow strict) (FinePlace strict) (row_laws strict)) IsRowValue row_limits
  unfolding row_laws
  limit_laws = record {
    at_start = start_fits;
    inside = λ which done p q m n. moves (reading false done q) (reading false done p)
        (λ e. (let grow = rows_grow strict p q m n in fewer (rows_of done + rows_at p) (rows_of done + rows_at q) (omega (arith, grow)) e))
        (λ e. and_moves (list_all few_both done) (few_there q) (few_there p) (terms_grow strict p q m n) e) which;
    over_comma = λ which done p x h. moves (reading false (done ++ x ∷ []) (on_left expr_start)) (reading false done p)
        (λ e. over_rows done p x 1 h e) (λ e. over_terms done p x true h e) which;
    over_end = λ which done p x h. moves (reading true (done ++ x ∷ []) (on_left expr_start)) (reading false done p)
        (λ e. over_rows done p x 0 h e) (λ e. over_terms done p x true h e) which;
    finished = λ which done p. moves (reading false done p) (reading true (done ++ (row_finishes strict p).1 ∷ []) (on_left expr_start))
        (λ e. finished_rows done p (row_finishes strict p).1 (finish_rows strict p) e) (λ e. finished_terms done p (row_finishes strict p).1 (finish_terms strict p) e) which;
    ended_alike = λ which xs p. moves (reading true xs p) (reading true xs (on_left expr_start)) (λ e. e) (λ e. e) which;
    at_end = λ which xs ys h. end_fits which (on_left expr_start) xs ys h;
  }

  -- the limits that lists of constraints pass are two
  pub free : (s : State) → (fits_state Automata s ≡ true) × (fits_state Variables s ≡ true) × (fits_state Locations s ≡ true) × (fits_state Transitions s ≡ true)
      × (fits_state NameBytes s ≡ true) × (fits_state Digits s ≡ true)
  free at_first = (refl, refl, refl, refl, refl, refl)
  free behind_true = (refl, refl, refl, refl, refl, refl)
  free true_ended = (refl, refl, refl, refl, refl, refl)
  free (in_rows r) = (refl, refl, refl, refl, refl, refl)

  -- the limit that is told at a token
  pub told : (s u : State) (m : Mark) → passed (row_line strict) s u m ≡
      (if fits_on (fits_state Rows s) (fits_state Rows u) m then (if fits_on (fits_state Terms s) (fits_state Terms u) m then passed_alone m else Some Terms) else Some Rows)
  told s u m =
      let f = free u in
      elim (fits_on (fits_state Rows s) (fits_state Rows u) m) as (λ b. fits_on (fits_state Rows s) (fits_state Rows u) m ≡ b → passed (row_line strict) s u m ≡
      (if b then (if fits_on (fits_state Terms s) (fits_state Terms u) m then passed_alone m else Some Terms) else Some Rows)) [
        | true ↦ λ e.
            elim (fits_on (fits_state Terms s) (fits_state Terms u) m) as (λ d. fits_on (fits_state Terms s) (fits_state Terms u) m ≡ d → passed (row_line strict) s u m ≡
            (if d then passed_alone m else Some Terms)) [
              | true ↦ λ k. rw (f.0, e, k) refl
              | false ↦ λ k. rw (f.0, e, k) refl
            ] refl
        | false ↦ λ e. rw (f.0, e) refl
      ] refl

  pub told_by : (s u : State) (m : Mark) (a b c d : Bool) → a ≡ fits_state Rows s → b ≡ fits_state Rows u → c ≡ fits_state Terms s → d ≡ fits_state Terms u →
      (if fits_on a b m then (if fits_on c d m then passed_alone m else Some Terms) else Some Rows) ≡ passed (row_line strict) s u m
  told_by s u m a b c d h i j k =
      ap (λ x. if fits_on x b m then (if fits_on c d m then passed_alone m else Some Terms) else Some Rows) h
      ∙ ap (λ x. if fits_on (fits_state Rows s) x m then (if fits_on c d m then passed_alone m else Some Terms) else Some Rows) i
      ∙ ap (λ x. if fits_on (fits_state Rows s) (fits_state Rows u) m then (if fits_on x d m then passed_alone m else Some Terms) else Some Rows) j
      ∙ ap (λ x. if fits_on (fits_state Rows s) (fits_state Rows u) m then (if fits_on (fits_state Terms s) x m then passed_alone m else Some Terms) else Some Rows) k
      ∙ sym (told s u m)
