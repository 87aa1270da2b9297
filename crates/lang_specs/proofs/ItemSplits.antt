-- Numbers, expressions and constraints are told by their tokens.
use Rattle.std.proofs.Common.{◌≡◌, inl, inr, ℕ, Bool, true, false, not, List, [], ◌∷◌, ◌++◌, Option, Some, None, Result, Ok, Err, refl, sym, ap, ◌∙◌, subst, append_assoc}
use Rattle.std.proofs.lemmas.List.{append_cancel_left}
use Rattle.poly_specs.specs.Fractions.{Fraction, zero_fraction}
use Rattle.number_specs.specs.declared.NumFault.{NumFault}
use Rattle.number_specs.specs.Literals.{read_literal}
use Rattle.lang_specs.specs.declared.Kind.{Kind}
use Rattle.lang_specs.specs.declared.Kind.TheVariants as kinds
use Rattle.lang_specs.specs.Marks.{Mark, the, a_name, a_number}
use Rattle.lang_specs.specs.Trees.{Term}
use Rattle.lang_specs.specs.Limits.{is_in_range}
use Rattle.lang_specs.specs.Expressions.{IsValue, IsLiteral, one, IsFactor, minus_if, minus_or_plus, AreMoreTerms, IsExpr}
use Rattle.lang_specs.proofs.ListLemmas.{head_is, tail_is}
use Rattle.lang_specs.proofs.SplitLemmas.{AreRead, AllIn, HeadIn, Closed, Splits, apart, same_of, read_front, read_rest, head_front, class_ends}

-- ---- kinds

abbrev pub in_factor : Kind → Bool
in_factor kinds.Name = true
in_factor kinds.Number = true
in_factor kinds.Times = true
in_factor k = false

abbrev pub in_expr : Kind → Bool
in_expr kinds.Name = true
in_expr kinds.Number = true
in_expr kinds.Times = true
in_expr kinds.Plus = true
in_expr kinds.Minus = true
in_expr k = false

abbrev pub ends_factor : Kind → Bool
ends_factor k = not (in_factor k)

abbrev pub ends_expr : Kind → Bool
ends_expr k = not (in_expr k)

-- what may stand behind one item of a list
abbrev pub ends_item : Kind → Bool
ends_item kinds.Comma = true
ends_item kinds.Close = true
ends_item kinds.Set = true
ends_item kinds.EndLine = true
ends_item k = false

pub expr_is_wider : (k : Kind) → ends_expr k ≡ true → ends_factor k ≡ true
expr_is_wider kinds.Name h = h
expr_is_wider kinds.Number h = h
expr_is_wider kinds.Times h = h
expr_is_wider k h = refl

pub item_is_wider : (k : Kind) → ends_item k ≡ true → ends_expr k ≡ true
item_is_wider kinds.Comma h = refl
item_is_wider kinds.Close h = refl
item_is_wider kinds.Set h = refl
item_is_wider kinds.EndLine h = refl
item_is_wider k h = apart (sym h)

pub closed_by : (ends more : Kind → Bool) (ms : List Mark) → ((k : Kind) → ends k ≡ true → more k ≡ true) → Closed ends ms → Closed more ms
closed_by ends more [] wider h = tt
closed_by ends more (m ∷ ms) wider h = wider m.kind h

pub item_closed : (ms : List Mark) → Closed ends_item ms → Closed ends_expr ms
item_closed ms h = closed_by ends_item ends_expr ms item_is_wider h

-- ---- values

abbrev value_in : Result Fraction NumFault → Fraction
value_in (Ok v) = v
value_in (Err e) = zero_fraction

value_is : (text : List ℕ) (v : Fraction) → IsValue text v → is_in_range (read_literal text) ≡ true → v ≡ value_in (read_literal text)
value_is text v (inl e) few = sym (ap value_in e)
value_is text v (inr e) few = apart (sym few ∙ ap is_in_range e)

-- a factor, as a term that is not taken away
abbrev as_term : Fraction → Option (List ℕ) → Term
as_term v var = record { neg = false; value = v; var = var }

abbrev one_token : Kind → List ℕ → Term
one_token kinds.Number text = as_term (value_in (read_literal text)) None
one_token k text = as_term one (Some text)

-- the factor that tokens spell
abbrev factor_of : List Mark → Term
factor_of [] = as_term one None
factor_of (m ∷ []) = one_token m.kind m.text
factor_of (m ∷ n ∷ []) = as_term one None
factor_of (m ∷ n ∷ p ∷ ms) = as_term (value_in (read_literal m.text)) (Some p.text)

factor_is : (ms : List Mark) (v : Fraction) (var : Option (List ℕ)) → IsFactor ms v var → AreRead ms → as_term v var ≡ factor_of ms
factor_is ms v None (text, e, h) read =
    let few = subst AreRead e read in
    ap (λ w. as_term w None) (value_is text v h few.0) ∙ ap factor_of (sym e)
factor_is ms v (Some name) (inl (front, e, (text, f, h))) read =
    let parts : ms ≡ a_number text ∷ the kinds.Times ∷ a_name name ∷ [] = e ∙ ap (λ z. z ++ the kinds.Times ∷ a_name name ∷ []) f in
    let few = subst AreRead parts read in
    ap (λ w. as_term w (Some name)) (value_is text v h few.0) ∙ ap factor_of (sym parts)
factor_is ms v (Some name) (inr (e, f)) read = ap (λ w. as_term w (Some name)) f ∙ ap factor_of (sym e)

pub factor_tokens : (ms : List Mark) (v : Fraction) (var : Option (List ℕ)) → IsFactor ms v var → AllIn in_factor ms × HeadIn in_factor ms
factor_tokens ms v None (text, e, h) = subst (λ z. AllIn in_factor z × HeadIn in_factor z) (sym e) ((refl, tt), refl)
factor_tokens ms v (Some name) (inl (front, e, (text, f, h))) =
    let parts : ms ≡ a_number text ∷ the kinds.Times ∷ a_name name ∷ [] = e ∙ ap (λ z. z ++ the kinds.Times ∷ a_name name ∷ []) f in
    subst (λ z. AllIn in_factor z × HeadIn in_factor z) (sym parts) ((refl, (refl, (refl, tt))), refl)
factor_tokens ms v (Some name) (inr (e, f)) = subst (λ z. AllIn in_factor z × HeadIn in_factor z) (sym e) ((refl, tt), refl)

pub factor_ends : (f g : List Mark) (R S : List Mark) (v w : Fraction) (a b : Option (List ℕ)) → IsFactor f v a → IsFactor g w b →
    Closed ends_factor R → Closed ends_factor S → f ++ R ≡ g ++ S → f ≡ g
factor_ends f g R S v w a b h k c d e = class_ends in_factor f g R S (factor_tokens f v a h).0 (factor_tokens g w b k).0 c d e

-- one literal at the front of both
pub value_of_literal : (f g : List Mark) (v w : Fraction) → IsLiteral f v → IsLiteral g w → AreRead f → f ≡ g → v ≡ w
value_of_literal f g v w h k read e =
    ap (λ t. t.value) (factor_is f v None h read ∙ ap factor_of e ∙ sym (factor_is g w None k (subst AreRead e read)))

-- ---- terms

is_minus : Kind → Bool
is_minus kinds.Minus = true
is_minus k = false

minus_of : (neg : Bool) → is_minus (minus_or_plus neg).kind ≡ neg
unfolding is_minus
minus_of true = refl
minus_of false = refl

joint_ends_factor : (neg : Bool) → ends_factor (minus_or_plus neg).kind ≡ true
joint_ends_factor true = refl
joint_ends_factor false = refl

joint_in_expr : (neg : Bool) → ends_expr (minus_or_plus neg).kind ≡ false
joint_in_expr true = refl
joint_in_expr false = refl

term_same : (t u : Term) → t.neg ≡ u.neg → as_term t.value t.var ≡ as_term u.value u.var → t ≡ u
term_same t u e f =
    let values : t ≡ record { neg = t.neg; value = u.value; var = u.var } = ap (λ z. record { neg = t.neg; value = z.value; var = z.var }) f in
    values ∙ ap (λ n. record { neg = n; value = u.value; var = u.var }) e

-- one factor at the front of both
factor_same : (f g : List Mark) (t u : Term) → t.neg ≡ u.neg → IsFactor f t.value t.var → IsFactor g u.value u.var → AreRead f → f ≡ g → t ≡ u
factor_same f g t u n h k read e =
    term_same t u n (factor_is f t.value t.var h read ∙ ap factor_of e ∙ sym (factor_is g u.value u.var k (subst AreRead e read)))

more_closed : (ms rest : List Mark) (ts : List Term) → AreMoreTerms ms ts → Closed ends_expr rest → Closed ends_factor (ms ++ rest)
more_closed ms rest [] e c = subst (λ z. Closed ends_factor (z ++ rest)) (sym e) (closed_by ends_expr ends_factor rest expr_is_wider c)
more_closed ms rest (t ∷ ts) (f, r, e, h, k) c = subst (λ z. Closed ends_factor (z ++ rest)) (sym e) (joint_ends_factor t.neg)

no_more : (neg : Bool) (ms rest after : List Mark) → Closed ends_expr rest → rest ≡ (minus_or_plus neg ∷ ms) ++ after → ⊥
no_more neg ms [] after c e = let b : ⊥ = cc in b
no_more neg ms (m ∷ rest) after c e =
    let same : ends_expr m.kind ≡ ends_expr (minus_or_plus neg).kind = ap (λ z. ends_expr z.kind) (head_is m (minus_or_plus neg) rest (ms ++ after) e) in
    apart (sym c ∙ same ∙ joint_in_expr neg)

cons_same : (m n : Mark) (f g r s : List Mark) → m ≡ n → f ≡ g → r ≡ s → m ∷ f ++ r ≡ n ∷ g ++ s
cons_same m n f g r s a b c = ap (λ z. z ∷ f ++ r) a ∙ ap (λ z. n ∷ z ++ r) b ∙ ap (λ z. n ∷ g ++ z) c

pub list_same : {X : Type 0} (x y : X) (xs ys : List X) → x ≡ y → xs ≡ ys → x ∷ xs ≡ y ∷ ys
list_same x y xs ys e f = ap (λ z. z ∷ xs) e ∙ ap (λ z. y ∷ z) f

more_same : (ms ns rest after : List Mark) (ts us : List Term) → AreMoreTerms ms ts → AreMoreTerms ns us → AreRead ms → Closed ends_expr rest →
    Closed ends_expr after → ms ++ rest ≡ ns ++ after → (ms ≡ ns) × (ts ≡ us)
more_same ms ns rest after [] [] h k read c d e = (h ∙ sym k, refl)
more_same ms ns rest after [] (u ∷ us) h (g, s, f, l, m) read c d e =
    let parts : rest ≡ (minus_or_plus u.neg ∷ g ++ s) ++ after =
    ap (λ z. z ++ rest) (sym h) ∙ e ∙ ap (λ z. z ++ after) f in
    absurd (no_more u.neg (g ++ s) rest after c parts)
more_same ms ns rest after (t ∷ ts) [] (f, r, p, h, k) l read c d e =
    let parts : after ≡ (minus_or_plus t.neg ∷ f ++ r) ++ rest =
    ap (λ z. z ++ after) (sym l) ∙ sym e ∙ ap (λ z. z ++ rest) p in
    absurd (no_more t.neg (f ++ r) after rest d parts)
more_same ms ns rest after (t ∷ ts) (u ∷ us) (f, r, p, h, k) (g, s, q, l, m) read c d e =
    let whole : (minus_or_plus t.neg ∷ f ++ r) ++ rest ≡ (minus_or_plus u.neg ∷ g ++ s) ++ after =
    ap (λ z. z ++ rest) (sym p) ∙ e ∙ ap (λ z. z ++ after) q in
    let heads = head_is (minus_or_plus t.neg) (minus_or_plus u.neg) ((f ++ r) ++ rest) ((g ++ s) ++ after) whole in
    let negs : t.neg ≡ u.neg = sym (minus_of t.neg) ∙ ap (λ z. is_minus z.kind) heads ∙ minus_of u.neg in
    let tails = tail_is (minus_or_plus t.neg) (minus_or_plus u.neg) ((f ++ r) ++ rest) ((g ++ s) ++ after) whole in
    let split : f ++ (r ++ rest) ≡ g ++ (s ++ after) = sym (append_assoc f r rest) ∙ tails ∙ append_assoc g s after in
    let reads : AreRead (f ++ r) = (subst AreRead p read).1 in
    let fronts = factor_ends f g (r ++ rest) (s ++ after) t.value u.value t.var u.var h l (more_closed r rest ts k c) (more_closed s after us m d) split in
    let terms = factor_same f g t u negs h l (read_front f r reads) fronts in
    let behind : r ++ rest ≡ s ++ after = append_cancel_left g (r ++ rest) (s ++ after) (ap (λ z. z ++ (r ++ rest)) (sym fronts) ∙ split) in
    let others = more_same r s rest after ts us k m (read_rest f r reads) c d behind in
    (p ∙ cons_same (minus_or_plus t.neg) (minus_or_plus u.neg) f g r s heads fronts others.0 ∙ sym q, list_same t u ts us terms others.1)

-- ---- expressions

regroup : (a f r rest : List Mark) → (a ++ f ++ r) ++ rest ≡ a ++ (f ++ (r ++ rest))
regroup a f r rest = append_assoc (a ++ f) r rest ∙ append_assoc a f (r ++ rest)

minus_leads : (xs ys : List Mark) → HeadIn in_factor xs → xs ≡ the kinds.Minus ∷ ys → ⊥
minus_leads [] ys h e = h
minus_leads (x ∷ xs) ys h e = apart (sym h ∙ ap (λ m. in_factor m.kind) (head_is x (the kinds.Minus) xs ys e))

factor_in_expr : (k : Kind) → in_factor k ≡ true → in_expr k ≡ true
factor_in_expr kinds.Name h = refl
factor_in_expr kinds.Number h = refl
factor_in_expr kinds.Times h = refl
factor_in_expr k h = apart (sym h)

led_head : (neg : Bool) (f r : List Mark) → HeadIn in_factor f → HeadIn in_expr (minus_if neg ++ f ++ r)
led_head true f r h = refl
led_head false [] r h = absurd h
led_head false (x ∷ f) r h = factor_in_expr x.kind h

-- a leading `-` is told from a factor
pub lead_same : (a b : Bool) (xs ys : List Mark) → HeadIn in_factor xs → HeadIn in_factor ys → minus_if a ++ xs ≡ minus_if b ++ ys → (a ≡ b) × (xs ≡ ys)
lead_same true true xs ys h k e = (refl, tail_is (the kinds.Minus) (the kinds.Minus) xs ys e)
lead_same false false xs ys h k e = (refl, e)
lead_same true false xs ys h k e = absurd (minus_leads ys xs k (sym e))
lead_same false true xs ys h k e = absurd (minus_leads xs ys h e)

pub expr_splits : Splits ends_expr IsExpr
expr_splits front other rest after [] y h k read c d e = absurd h
expr_splits front other rest after (t ∷ ts) [] h k read c d e = absurd k
expr_splits front other rest after (t ∷ ts) (u ∷ us) (f, r, p, h, k) (g, s, q, l, m) read c d e =
    let whole : minus_if t.neg ++ (f ++ (r ++ rest)) ≡ minus_if u.neg ++ (g ++ (s ++ after)) =
    sym (regroup (minus_if t.neg) f r rest) ∙ ap (λ z. z ++ rest) (sym p) ∙ e ∙ ap (λ z. z ++ after) q ∙ regroup (minus_if u.neg) g s after in
    let leads = lead_same t.neg u.neg (f ++ (r ++ rest)) (g ++ (s ++ after)) (head_front in_factor f (r ++ rest) (factor_tokens f t.value t.var h).1)
    (head_front in_factor g (s ++ after) (factor_tokens g u.value u.var l).1) whole in
    let reads : AreRead (minus_if t.neg ++ f ++ r) = subst AreRead p read in
    let fronts = factor_ends f g (r ++ rest) (s ++ after) t.value u.value t.var u.var h l (more_closed r rest ts k c) (more_closed s after us m d) leads.1 in
    let terms = factor_same f g t u leads.0 h l (read_rest (minus_if t.neg) f (read_front (minus_if t.neg ++ f) r reads)) fronts in
    let behind : r ++ rest ≡ s ++ after = append_cancel_left g (r ++ rest) (s ++ after) (ap (λ z. z ++ (r ++ rest)) (sym fronts) ∙ leads.1) in
    let others = more_same r s rest after ts us k m (read_rest (minus_if t.neg ++ f) r reads) c d behind in
    let parts : minus_if t.neg ++ f ++ r ≡ minus_if u.neg ++ g ++ s =
    ap (λ z. minus_if z ++ f ++ r) leads.0 ∙ ap (λ z. minus_if u.neg ++ z ++ r) fronts ∙ ap (λ z. minus_if u.neg ++ g ++ z) others.0 in
    same_of front other rest after (t ∷ ts) (u ∷ us) (p ∙ parts ∙ sym q) e (list_same t u ts us terms others.1)

pub expr_head : (ms : List Mark) (ts : List Term) → IsExpr ms ts → HeadIn in_expr ms
expr_head ms [] h = absurd h
expr_head ms (t ∷ ts) (f, r, p, h, k) = subst (HeadIn in_expr) (sym p) (led_head t.neg f r (factor_tokens f t.value t.var h).1)
