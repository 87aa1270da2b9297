-- Lists of names, constraints, boxes, bounds and acts are told by their tokens.
use Rattle.std.proofs.Common.{◌≡◌, inl, inr, ℕ, Bool, true, false, List, [], ◌∷◌, ◌++◌, None, refl, sym, ap, ◌∙◌, subst, append_assoc}
use Rattle.lang_specs.specs.declared.Kind.{Kind}
use Rattle.lang_specs.specs.declared.Kind.TheVariants as kinds
use Rattle.lang_specs.specs.declared.Sign.{Sign}
use Rattle.lang_specs.specs.declared.Sign.TheVariants as signs
use Rattle.lang_specs.specs.Marks.{Mark, the, a_name}
use Rattle.lang_specs.specs.Trees.{Term, RowTree, BoxTree, BoundTree, Set, Within, Free}
use Rattle.lang_specs.specs.Expressions.{AreJoined, IsName, IsLiteral, IsNum, signed, minus_if, IsExpr, sign_mark, IsRow, AreRows, IsBetween, IsBox, IsBound, IsAct, IsGuard, AreActs}
use Rattle.lang_specs.proofs.ListLemmas.{head_is, tail_is}
use Rattle.lang_specs.proofs.SplitLemmas.{AreRead, HeadIn, Closed, Splits, apart, same_of, read_front, read_rest, head_front}
use Rattle.lang_specs.proofs.ItemSplits.{in_expr, in_factor, ends_expr, ends_factor, ends_item, item_closed, closed_by, expr_is_wider, value_of_literal, factor_ends, factor_tokens, lead_same, expr_splits, expr_head, list_same}

-- ---- what stands behind

-- what may stand behind a list
abbrev pub ends_list : Kind → Bool
ends_list kinds.Set = true
ends_list kinds.EndLine = true
ends_list k = false

list_is_wider : (k : Kind) → ends_list k ≡ true → ends_item k ≡ true
list_is_wider kinds.Set h = refl
list_is_wider kinds.EndLine h = refl
list_is_wider k h = apart (sym h)

list_closed : (ms : List Mark) → Closed ends_list ms → Closed ends_item ms
list_closed ms h = closed_by ends_list ends_item ms list_is_wider h

factor_closed : (ms : List Mark) → Closed ends_item ms → Closed ends_factor ms
factor_closed ms h = closed_by ends_expr ends_factor ms expr_is_wider (item_closed ms h)

pub closed_not : (ends : Kind → Bool) (m : Mark) (ms rest : List Mark) → ends m.kind ≡ false → Closed ends rest → rest ≡ m ∷ ms → ⊥
closed_not ends m ms [] out c e = let b : ⊥ = cc in b
closed_not ends m ms (r ∷ rest) out c e = apart (sym c ∙ ap (λ z. ends z.kind) (head_is r m rest ms e) ∙ out)

pub head_not : (these : Kind → Bool) (m : Mark) (ms xs : List Mark) → these m.kind ≡ false → HeadIn these xs → m ∷ ms ≡ xs → ⊥
head_not these m ms [] out h e = h
head_not these m ms (x ∷ xs) out h e = apart (sym h ∙ ap (λ z. these z.kind) (sym (head_is m x ms xs e)) ∙ out)

-- ---- constraints

sign_ends : (s : Sign) → ends_expr (sign_mark s).kind ≡ true
sign_ends signs.AtMost = refl
sign_ends signs.AtLeast = refl
sign_ends signs.Equal = refl
sign_ends signs.Less = refl
sign_ends signs.Greater = refl

abbrev sign_back : Kind → Sign
sign_back kinds.AtLeast = signs.AtLeast
sign_back kinds.Equal = signs.Equal
sign_back kinds.Less = signs.Less
sign_back kinds.Greater = signs.Greater
sign_back k = signs.AtMost

back_is : (s : Sign) → sign_back (sign_mark s).kind ≡ s
back_is signs.AtMost = refl
back_is signs.AtLeast = refl
back_is signs.Equal = refl
back_is signs.Less = refl
back_is signs.Greater = refl

row_same : (x y : RowTree) → x.left ≡ y.left → x.sign ≡ y.sign → x.right ≡ y.right → x ≡ y
row_same x y a b c =
    let first : x ≡ record { left = y.left; sign = x.sign; right = x.right } = ap (λ z. record { left = z; sign = x.sign; right = x.right }) a in
    let second : record { left = y.left; sign = x.sign; right = x.right } ≡ record { left = y.left; sign = y.sign; right = x.right } =
    ap (λ z. record { left = y.left; sign = z; right = x.right }) b in
    first ∙ second ∙ ap (λ z. record { left = y.left; sign = y.sign; right = z }) c

row_splits : (strict : Bool) → Splits ends_item (IsRow strict)
row_splits strict front other rest after x y (f, r, p, h, i, k) (g, s, q, l, j, m) read c d e =
    let whole : f ++ (sign_mark x.sign ∷ (r ++ rest)) ≡ g ++ (sign_mark y.sign ∷ (s ++ after)) =
    sym (append_assoc f (sign_mark x.sign ∷ r) rest) ∙ ap (λ z. z ++ rest) (sym p) ∙ e ∙ ap (λ z. z ++ after) q
    ∙ append_assoc g (sign_mark y.sign ∷ s) after in
    let reads : AreRead (f ++ sign_mark x.sign ∷ r) = subst AreRead p read in
    let lefts = expr_splits f g (sign_mark x.sign ∷ (r ++ rest)) (sign_mark y.sign ∷ (s ++ after)) x.left y.left h l
    (read_front f (sign_mark x.sign ∷ r) reads) (sign_ends x.sign) (sign_ends y.sign) whole in
    let marks = head_is (sign_mark x.sign) (sign_mark y.sign) (r ++ rest) (s ++ after) lefts.rests in
    let rights = expr_splits r s rest after x.right y.right k m (read_rest f (sign_mark x.sign ∷ r) reads).1 (item_closed rest c) (item_closed after d)
    (tail_is (sign_mark x.sign) (sign_mark y.sign) (r ++ rest) (s ++ after) lefts.rests) in
    let parts : f ++ sign_mark x.sign ∷ r ≡ g ++ sign_mark y.sign ∷ s =
    ap (λ z. z ++ sign_mark x.sign ∷ r) lefts.fronts ∙ ap (λ z. g ++ z ∷ r) marks ∙ ap (λ z. g ++ sign_mark y.sign ∷ z) rights.fronts in
    let sames : x.sign ≡ y.sign = sym (back_is x.sign) ∙ ap (λ z. sign_back z.kind) marks ∙ back_is y.sign in
    same_of front other rest after x y (p ∙ parts ∙ sym q) e (row_same x y lefts.things sames rights.things)

row_head : (strict : Bool) (ms : List Mark) (r : RowTree) → IsRow strict ms r → HeadIn in_expr ms
row_head strict ms r (f, g, p, h, i, k) =
    subst (HeadIn in_expr) (sym p) (head_front in_expr f (sign_mark r.sign ∷ g) (expr_head f r.left h))

-- ---- lists with commas

joined_head : {X : Type 0} (Is : List Mark → X → Type 0) (these : Kind → Bool) → ((ms : List Mark) (x : X) → Is ms x → HeadIn these ms) →
    (ms : List Mark) (xs : List X) → AreJoined Is ms xs → HeadIn these ms
joined_head Is these each ms [] h = absurd h
joined_head Is these each ms (x ∷ []) h = each ms x h
joined_head Is these each ms (x ∷ y ∷ xs) (f, r, p, h, k) = subst (HeadIn these) (sym p) (head_front these f (the kinds.Comma ∷ r) (each f x h))

pub joined_splits : {X : Type 0} (Is : List Mark → X → Type 0) → Splits ends_item Is → Splits ends_list (AreJoined Is)
joined_splits Is one front other rest after [] ys h k read c d e = absurd h
joined_splits Is one front other rest after (x ∷ xs) [] h k read c d e = absurd k
joined_splits Is one front other rest after (x ∷ []) (y ∷ []) h k read c d e =
    let s = one front other rest after x y h k read (list_closed rest c) (list_closed after d) e in
    same_of front other rest after (x ∷ []) (y ∷ []) s.fronts e (ap (λ z. z ∷ []) s.things)
joined_splits Is one front other rest after (x ∷ []) (y ∷ v ∷ ys) h (g, s, q, l, m) read c d e =
    let whole : front ++ rest ≡ g ++ (the kinds.Comma ∷ (s ++ after)) = e ∙ ap (λ z. z ++ after) q ∙ append_assoc g (the kinds.Comma ∷ s) after in
    let both = one front g rest (the kinds.Comma ∷ (s ++ after)) x y h l read (list_closed rest c) refl whole in
    absurd (closed_not ends_list (the kinds.Comma) (s ++ after) rest refl c both.rests)
joined_splits Is one front other rest after (x ∷ w ∷ xs) (y ∷ []) (f, r, p, h, k) l read c d e =
    let whole : f ++ (the kinds.Comma ∷ (r ++ rest)) ≡ other ++ after = sym (append_assoc f (the kinds.Comma ∷ r) rest) ∙ ap (λ z. z ++ rest) (sym p) ∙ e in
    let both = one f other (the kinds.Comma ∷ (r ++ rest)) after x y h l (read_front f (the kinds.Comma ∷ r) (subst AreRead p read)) refl (list_closed after d) whole in
    absurd (closed_not ends_list (the kinds.Comma) (r ++ rest) after refl d (sym both.rests))
joined_splits Is one front other rest after (x ∷ w ∷ xs) (y ∷ v ∷ ys) (f, r, p, h, k) (g, s, q, l, m) read c d e =
    let whole : f ++ (the kinds.Comma ∷ (r ++ rest)) ≡ g ++ (the kinds.Comma ∷ (s ++ after)) =
    sym (append_assoc f (the kinds.Comma ∷ r) rest) ∙ ap (λ z. z ++ rest) (sym p) ∙ e ∙ ap (λ z. z ++ after) q ∙ append_assoc g (the kinds.Comma ∷ s) after in
    let reads : AreRead (f ++ the kinds.Comma ∷ r) = subst AreRead p read in
    let firsts = one f g (the kinds.Comma ∷ (r ++ rest)) (the kinds.Comma ∷ (s ++ after)) x y h l (read_front f (the kinds.Comma ∷ r) reads) refl refl whole in
    let others = joined_splits Is one r s rest after (w ∷ xs) (v ∷ ys) k m (read_rest f (the kinds.Comma ∷ r) reads).1 c d
    (tail_is (the kinds.Comma) (the kinds.Comma) (r ++ rest) (s ++ after) firsts.rests) in
    let parts : f ++ the kinds.Comma ∷ r ≡ g ++ the kinds.Comma ∷ s =
    ap (λ z. z ++ the kinds.Comma ∷ r) firsts.fronts ∙ ap (λ z. g ++ the kinds.Comma ∷ z) others.fronts in
    same_of front other rest after (x ∷ w ∷ xs) (y ∷ v ∷ ys) (p ∙ parts ∙ sym q) e (list_same x y (w ∷ xs) (v ∷ ys) firsts.things others.things)

pub rows_splits : (strict : Bool) → Splits ends_list (AreRows strict)
rows_splits strict front other rest after [] [] h k read c d e = same_of front other rest after [] [] (h ∙ sym k) e refl
rows_splits strict front other rest after [] (y ∷ ys) h k read c d e =
    let whole : the kinds.True ∷ rest ≡ other ++ after = ap (λ z. z ++ rest) (sym h) ∙ e in
    let heads = head_front in_expr other after (joined_head (IsRow strict) in_expr (row_head strict) other (y ∷ ys) k) in
    absurd (head_not in_expr (the kinds.True) rest (other ++ after) refl heads whole)
rows_splits strict front other rest after (x ∷ xs) [] h k read c d e =
    let whole : the kinds.True ∷ after ≡ front ++ rest = ap (λ z. z ++ after) (sym k) ∙ sym e in
    let heads = head_front in_expr front rest (joined_head (IsRow strict) in_expr (row_head strict) front (x ∷ xs) h) in
    absurd (head_not in_expr (the kinds.True) after (front ++ rest) refl heads whole)
rows_splits strict front other rest after (x ∷ xs) (y ∷ ys) h k read c d e =
    joined_splits (IsRow strict) (row_splits strict) front other rest after (x ∷ xs) (y ∷ ys) h k read c d e

-- ---- names and numbers

pub name_splits : Splits ends_item IsName
name_splits front other rest after x y h k read c d e =
    let whole : a_name x ∷ rest ≡ a_name y ∷ after = ap (λ z. z ++ rest) (sym h) ∙ e ∙ ap (λ z. z ++ after) k in
    let name : x ≡ y = ap (λ m. m.text) (head_is (a_name x) (a_name y) rest after whole) in
    same_of front other rest after x y (h ∙ ap (λ z. a_name z ∷ []) name ∙ sym k) e name

literal_splits : Splits ends_item IsLiteral
literal_splits front other rest after x y h k read c d e =
    let fronts = factor_ends front other rest after x y None None h k (factor_closed rest c) (factor_closed after d) e in
    same_of front other rest after x y fronts e (value_of_literal front other x y h k read fronts)

num_splits : Splits ends_item IsNum
num_splits front other rest after x y (a, v, f, p, h, i) (b, w, g, q, k, j) read c d e =
    let whole : minus_if a ++ (f ++ rest) ≡ minus_if b ++ (g ++ after) =
    sym (append_assoc (minus_if a) f rest) ∙ ap (λ z. z ++ rest) (sym p) ∙ e ∙ ap (λ z. z ++ after) q ∙ append_assoc (minus_if b) g after in
    let leads = lead_same a b (f ++ rest) (g ++ after) (head_front in_factor f rest (factor_tokens f v None h).1)
    (head_front in_factor g after (factor_tokens g w None k).1) whole in
    let sizes = literal_splits f g rest after v w h k (read_rest (minus_if a) f (subst AreRead p read)) c d leads.1 in
    let parts : minus_if a ++ f ≡ minus_if b ++ g = ap (λ z. minus_if z ++ f) leads.0 ∙ ap (λ z. minus_if b ++ z) sizes.fronts in
    let values : signed a v ≡ signed b w = ap (λ z. signed z v) leads.0 ∙ ap (λ z. signed b z) sizes.things in
    same_of front other rest after x y (p ∙ parts ∙ sym q) e (i ∙ values ∙ sym j)

-- ---- `[ A , B ]`

between_parts : (f r rest : List Mark) →
    (the kinds.Open ∷ f ++ the kinds.Comma ∷ r ++ the kinds.Close ∷ []) ++ rest ≡ the kinds.Open ∷ (f ++ (the kinds.Comma ∷ (r ++ (the kinds.Close ∷ rest))))
between_parts f r rest =
    append_assoc (the kinds.Open ∷ f ++ the kinds.Comma ∷ r) (the kinds.Close ∷ []) rest
    ∙ append_assoc (the kinds.Open ∷ f) (the kinds.Comma ∷ r) (the kinds.Close ∷ rest)

-- both ends of two intervals at the front of one list are the same
record SameEnds {X : Type 0} (front other : List Mark) (lo hi a b : X) : Type 0 where
  fronts : front ≡ other
  lows : lo ≡ a
  highs : hi ≡ b

between_same : {X : Type 0} (ends : Kind → Bool) (Is : List Mark → X → Type 0) → Splits ends Is → ends kinds.Comma ≡ true → ends kinds.Close ≡ true →
    (front other rest after : List Mark) (lo hi a b : X) → IsBetween Is front lo hi → IsBetween Is other a b → AreRead front →
    front ++ rest ≡ other ++ after → SameEnds front other lo hi a b
between_same ends Is one comma close front other rest after lo hi a b (f, r, p, h, k) (g, s, q, l, m) read e =
    let whole : the kinds.Open ∷ (f ++ (the kinds.Comma ∷ (r ++ (the kinds.Close ∷ rest)))) ≡ the kinds.Open ∷ (g ++ (the kinds.Comma ∷ (s ++ (the kinds.Close ∷ after)))) =
    sym (between_parts f r rest) ∙ ap (λ z. z ++ rest) (sym p) ∙ e ∙ ap (λ z. z ++ after) q ∙ between_parts g s after in
    let reads = read_front (the kinds.Open ∷ f ++ the kinds.Comma ∷ r) (the kinds.Close ∷ []) (subst AreRead p read) in
    let lows = one f g (the kinds.Comma ∷ (r ++ (the kinds.Close ∷ rest))) (the kinds.Comma ∷ (s ++ (the kinds.Close ∷ after))) lo a h l
    (read_front (the kinds.Open ∷ f) (the kinds.Comma ∷ r) reads).1 comma comma
    (tail_is (the kinds.Open) (the kinds.Open) (f ++ (the kinds.Comma ∷ (r ++ (the kinds.Close ∷ rest)))) (g ++ (the kinds.Comma ∷ (s ++ (the kinds.Close ∷ after)))) whole) in
    let highs = one r s (the kinds.Close ∷ rest) (the kinds.Close ∷ after) hi b k m (read_rest (the kinds.Open ∷ f) (the kinds.Comma ∷ r) reads).1 close close
    (tail_is (the kinds.Comma) (the kinds.Comma) (r ++ (the kinds.Close ∷ rest)) (s ++ (the kinds.Close ∷ after)) lows.rests) in
    let parts : the kinds.Open ∷ f ++ the kinds.Comma ∷ r ++ the kinds.Close ∷ [] ≡ the kinds.Open ∷ g ++ the kinds.Comma ∷ s ++ the kinds.Close ∷ [] =
    ap (λ z. the kinds.Open ∷ z ++ the kinds.Comma ∷ r ++ the kinds.Close ∷ []) lows.fronts
    ∙ ap (λ z. the kinds.Open ∷ g ++ the kinds.Comma ∷ z ++ the kinds.Close ∷ []) highs.fronts in
    record { fronts = p ∙ parts ∙ sym q; lows = lows.things; highs = highs.things }

-- ---- boxes, bounds and acts

-- two tokens that begin both lists, and what stands behind them
record SameLead (a b : Mark) (rest after : List Mark) : Type 0 where
  firsts : a ≡ b
  rests : rest ≡ after

lead_two : (a b m n : Mark) (r s rest after front other : List Mark) → front ≡ a ∷ m ∷ r → other ≡ b ∷ n ∷ s → front ++ rest ≡ other ++ after →
    SameLead a b (m ∷ r ++ rest) (n ∷ s ++ after)
lead_two a b m n r s rest after front other p q e =
    let whole : a ∷ m ∷ (r ++ rest) ≡ b ∷ n ∷ (s ++ after) = ap (λ z. z ++ rest) (sym p) ∙ e ∙ ap (λ z. z ++ after) q in
    record { firsts = head_is a b (m ∷ (r ++ rest)) (n ∷ (s ++ after)) whole; rests = tail_is a b (m ∷ (r ++ rest)) (n ∷ (s ++ after)) whole }

box_same : (x y : BoxTree) → x.var ≡ y.var → x.lo ≡ y.lo → x.hi ≡ y.hi → x ≡ y
box_same x y a b c =
    let first : x ≡ record { var = y.var; lo = x.lo; hi = x.hi } = ap (λ z. record { var = z; lo = x.lo; hi = x.hi }) a in
    let second : record { var = y.var; lo = x.lo; hi = x.hi } ≡ record { var = y.var; lo = y.lo; hi = x.hi } =
    ap (λ z. record { var = y.var; lo = z; hi = x.hi }) b in
    first ∙ second ∙ ap (λ z. record { var = y.var; lo = y.lo; hi = z }) c

pub box_splits : Splits ends_item IsBox
box_splits front other rest after x y (r, p, h) (s, q, k) read c d e =
    let leads = lead_two (a_name x.var) (a_name y.var) (the kinds.In) (the kinds.In) r s rest after front other p q e in
    let var : x.var ≡ y.var = ap (λ m. m.text) leads.firsts in
    let ends = between_same ends_item IsNum num_splits refl refl r s rest after x.lo x.hi y.lo y.hi h k (subst AreRead p read).1.1
    (tail_is (the kinds.In) (the kinds.In) (r ++ rest) (s ++ after) leads.rests) in
    let parts : a_name x.var ∷ the kinds.In ∷ r ≡ a_name y.var ∷ the kinds.In ∷ s =
    ap (λ z. a_name z ∷ the kinds.In ∷ r) var ∙ ap (λ z. a_name y.var ∷ the kinds.In ∷ z) ends.fronts in
    same_of front other rest after x y (p ∙ parts ∙ sym q) e (box_same x y var ends.lows ends.highs)

bound_same : (x y : BoundTree) → x.var ≡ y.var → x.within ≡ y.within → x ≡ y
bound_same x y a b =
    let first : x ≡ record { var = y.var; within = x.within } = ap (λ z. record { var = z; within = x.within }) a in
    first ∙ ap (λ z. record { var = y.var; within = z }) b

pub bound_splits : Splits ends_item IsBound
bound_splits front other rest after x y (r, p, h) (s, q, k) read c d e =
    let leads = lead_two (a_name x.var) (a_name y.var) (the kinds.Within) (the kinds.Within) r s rest after front other p q e in
    let var : x.var ≡ y.var = ap (λ m. m.text) leads.firsts in
    let size = literal_splits r s rest after x.within y.within h k (subst AreRead p read).1.1 c d
    (tail_is (the kinds.Within) (the kinds.Within) (r ++ rest) (s ++ after) leads.rests) in
    let parts : a_name x.var ∷ the kinds.Within ∷ r ≡ a_name y.var ∷ the kinds.Within ∷ s =
    ap (λ z. a_name z ∷ the kinds.Within ∷ r) var ∙ ap (λ z. a_name y.var ∷ the kinds.Within ∷ z) size.fronts in
    same_of front other rest after x y (p ∙ parts ∙ sym q) e (bound_same x y var size.things)

-- of two lists that are equal the first and the second kinds are
kind_apart : (test : Kind → Bool) (m n : Mark) (ms ns : List Mark) → test m.kind ≡ true → test n.kind ≡ false → m ∷ ms ≡ n ∷ ns → ⊥
kind_apart test m n ms ns first out e = apart (sym first ∙ ap (λ z. test z.kind) (head_is m n ms ns e) ∙ out)

abbrev is_equal : Kind → Bool
is_equal kinds.Equal = true
is_equal k = false

abbrev is_word : Kind → Bool
is_word kinds.Name = true
is_word k = false

within_same : (v w : List ℕ) (a b c d : List Term) → v ≡ w → a ≡ c → b ≡ d → Within v a b ≡ Within w c d
within_same v w a b c d e f g = ap (λ z. Within z a b) e ∙ ap (λ z. Within w z b) f ∙ ap (λ z. Within w c z) g

pub act_splits : Splits ends_item IsAct
act_splits front other rest after (Set v a) (Set w b) (r, p, h) (s, q, k) read c d e =
    let leads = lead_two (a_name v) (a_name w) (the kinds.Equal) (the kinds.Equal) r s rest after front other p q e in
    let var : v ≡ w = ap (λ m. m.text) leads.firsts in
    let value = expr_splits r s rest after a b h k (subst AreRead p read).1.1 (item_closed rest c) (item_closed after d)
    (tail_is (the kinds.Equal) (the kinds.Equal) (r ++ rest) (s ++ after) leads.rests) in
    let parts : a_name v ∷ the kinds.Equal ∷ r ≡ a_name w ∷ the kinds.Equal ∷ s =
    ap (λ z. a_name z ∷ the kinds.Equal ∷ r) var ∙ ap (λ z. a_name w ∷ the kinds.Equal ∷ z) value.fronts in
    same_of front other rest after (Set v a) (Set w b) (p ∙ parts ∙ sym q) e (ap (λ z. Set z a) var ∙ ap (λ z. Set w z) value.things)
act_splits front other rest after (Within v a b) (Within w i j) (r, p, h) (s, q, k) read c d e =
    let leads = lead_two (a_name v) (a_name w) (the kinds.In) (the kinds.In) r s rest after front other p q e in
    let var : v ≡ w = ap (λ m. m.text) leads.firsts in
    let ends = between_same ends_expr IsExpr expr_splits refl refl r s rest after a b i j h k (subst AreRead p read).1.1
    (tail_is (the kinds.In) (the kinds.In) (r ++ rest) (s ++ after) leads.rests) in
    let parts : a_name v ∷ the kinds.In ∷ r ≡ a_name w ∷ the kinds.In ∷ s =
    ap (λ z. a_name z ∷ the kinds.In ∷ r) var ∙ ap (λ z. a_name w ∷ the kinds.In ∷ z) ends.fronts in
    same_of front other rest after (Within v a b) (Within w i j) (p ∙ parts ∙ sym q) e (within_same v w a b i j var ends.lows ends.highs)
act_splits front other rest after (Free v) (Free w) p q read c d e =
    let leads = lead_two (the kinds.Free) (the kinds.Free) (a_name v) (a_name w) [] [] rest after front other p q e in
    let var : v ≡ w = ap (λ m. m.text) (head_is (a_name v) (a_name w) rest after leads.rests) in
    same_of front other rest after (Free v) (Free w) (p ∙ ap (λ z. the kinds.Free ∷ a_name z ∷ []) var ∙ sym q) e (ap Free var)
act_splits front other rest after (Set v a) (Within w i j) (r, p, h) (s, q, k) read c d e =
    let leads = lead_two (a_name v) (a_name w) (the kinds.Equal) (the kinds.In) r s rest after front other p q e in
    absurd (kind_apart is_equal (the kinds.Equal) (the kinds.In) (r ++ rest) (s ++ after) refl refl leads.rests)
act_splits front other rest after (Within v a b) (Set w i) (r, p, h) (s, q, k) read c d e =
    let leads = lead_two (a_name v) (a_name w) (the kinds.In) (the kinds.Equal) r s rest after front other p q e in
    absurd (kind_apart is_equal (the kinds.Equal) (the kinds.In) (s ++ after) (r ++ rest) refl refl (sym leads.rests))
act_splits front other rest after (Set v a) (Free w) (r, p, h) q read c d e =
    let whole : a_name v ∷ (the kinds.Equal ∷ r ++ rest) ≡ the kinds.Free ∷ (a_name w ∷ after) = ap (λ z. z ++ rest) (sym p) ∙ e ∙ ap (λ z. z ++ after) q in
    absurd (kind_apart is_word (a_name v) (the kinds.Free) (the kinds.Equal ∷ r ++ rest) (a_name w ∷ after) refl refl whole)
act_splits front other rest after (Within v a b) (Free w) (r, p, h) q read c d e =
    let whole : a_name v ∷ (the kinds.In ∷ r ++ rest) ≡ the kinds.Free ∷ (a_name w ∷ after) = ap (λ z. z ++ rest) (sym p) ∙ e ∙ ap (λ z. z ++ after) q in
    absurd (kind_apart is_word (a_name v) (the kinds.Free) (the kinds.In ∷ r ++ rest) (a_name w ∷ after) refl refl whole)
act_splits front other rest after (Free v) (Set w a) p (r, q, h) read c d e =
    let whole : a_name w ∷ (the kinds.Equal ∷ r ++ after) ≡ the kinds.Free ∷ (a_name v ∷ rest) =
    ap (λ z. z ++ after) (sym q) ∙ sym e ∙ ap (λ z. z ++ rest) p in
    absurd (kind_apart is_word (a_name w) (the kinds.Free) (the kinds.Equal ∷ r ++ after) (a_name v ∷ rest) refl refl whole)
act_splits front other rest after (Free v) (Within w a b) p (r, q, h) read c d e =
    let whole : a_name w ∷ (the kinds.In ∷ r ++ after) ≡ the kinds.Free ∷ (a_name v ∷ rest) =
    ap (λ z. z ++ after) (sym q) ∙ sym e ∙ ap (λ z. z ++ rest) p in
    absurd (kind_apart is_word (a_name w) (the kinds.Free) (the kinds.In ∷ r ++ after) (a_name v ∷ rest) refl refl whole)

-- ---- guards and lists of acts

-- what may stand behind the acts of a transition
abbrev pub ends_line : Kind → Bool
ends_line kinds.EndLine = true
ends_line k = false

line_is_wider : (k : Kind) → ends_line k ≡ true → ends_list k ≡ true
line_is_wider kinds.EndLine h = refl
line_is_wider k h = apart (sym h)

pub line_closed : (ms : List Mark) → Closed ends_line ms → Closed ends_list ms
line_closed ms h = closed_by ends_line ends_list ms line_is_wider h

pub guard_splits : (strict : Bool) → Splits ends_list (IsGuard strict)
guard_splits strict front other rest after x y (inl h) (inl k) read c d e = same_of front other rest after x y (h.0 ∙ sym k.0) e (h.1 ∙ sym k.1)
guard_splits strict front other rest after x y (inl h) (inr (s, q, k)) read c d e =
    let whole : rest ≡ the kinds.When ∷ (s ++ after) = ap (λ z. z ++ rest) (sym h.0) ∙ e ∙ ap (λ z. z ++ after) q in
    absurd (closed_not ends_list (the kinds.When) (s ++ after) rest refl c whole)
guard_splits strict front other rest after x y (inr (r, p, h)) (inl k) read c d e =
    let whole : after ≡ the kinds.When ∷ (r ++ rest) = ap (λ z. z ++ after) (sym k.0) ∙ sym e ∙ ap (λ z. z ++ rest) p in
    absurd (closed_not ends_list (the kinds.When) (r ++ rest) after refl d whole)
guard_splits strict front other rest after x y (inr (r, p, h)) (inr (s, q, k)) read c d e =
    let whole : the kinds.When ∷ (r ++ rest) ≡ the kinds.When ∷ (s ++ after) = ap (λ z. z ++ rest) (sym p) ∙ e ∙ ap (λ z. z ++ after) q in
    let rows = rows_splits strict r s rest after x y h k (subst AreRead p read).1 c d
    (tail_is (the kinds.When) (the kinds.When) (r ++ rest) (s ++ after) whole) in
    same_of front other rest after x y (p ∙ ap (λ z. the kinds.When ∷ z) rows.fronts ∙ sym q) e rows.things

pub acts_splits : Splits ends_line AreActs
acts_splits front other rest after [] [] h k read c d e = same_of front other rest after [] [] (h ∙ sym k) e refl
acts_splits front other rest after [] (y ∷ ys) h (s, q, k) read c d e =
    let whole : rest ≡ the kinds.Set ∷ (s ++ after) = ap (λ z. z ++ rest) (sym h) ∙ e ∙ ap (λ z. z ++ after) q in
    absurd (closed_not ends_line (the kinds.Set) (s ++ after) rest refl c whole)
acts_splits front other rest after (x ∷ xs) [] (r, p, h) k read c d e =
    let whole : after ≡ the kinds.Set ∷ (r ++ rest) = ap (λ z. z ++ after) (sym k) ∙ sym e ∙ ap (λ z. z ++ rest) p in
    absurd (closed_not ends_line (the kinds.Set) (r ++ rest) after refl d whole)
acts_splits front other rest after (x ∷ xs) (y ∷ ys) (r, p, h) (s, q, k) read c d e =
    let whole : the kinds.Set ∷ (r ++ rest) ≡ the kinds.Set ∷ (s ++ after) = ap (λ z. z ++ rest) (sym p) ∙ e ∙ ap (λ z. z ++ after) q in
    let acts = joined_splits IsAct act_splits r s rest after (x ∷ xs) (y ∷ ys) h k (subst AreRead p read).1 (line_closed rest c) (line_closed after d)
    (tail_is (the kinds.Set) (the kinds.Set) (r ++ rest) (s ++ after) whole) in
    same_of front other rest after (x ∷ xs) (y ∷ ys) (p ∙ ap (λ z. the kinds.Set ∷ z) acts.fronts ∙ sym q) e acts.things
