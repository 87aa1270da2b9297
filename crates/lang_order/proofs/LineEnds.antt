-- No statement holds the end of a line or of the text, so tokens are split into lines in one way.
use Rattle.std.proofs.Common.{◌≡◌, inl, inr, ℕ, Bool, true, false, List, [], ◌∷◌, ◌++◌, Option, Some, None, refl, sym, subst}
use Rattle.poly_specs.specs.Fractions.{Fraction}
use Rattle.lang_specs.specs.declared.Kind.{Kind}
use Rattle.lang_specs.specs.declared.Kind.TheVariants as kinds
use Rattle.lang_specs.specs.declared.Sign.{Sign}
use Rattle.lang_specs.specs.declared.Sign.TheVariants as signs
use Rattle.lang_specs.specs.Marks.{Mark, the, a_name, a_number}
use Rattle.lang_specs.specs.Trees.{Term, RowTree, BoxTree, BoundTree, Act, Set, Within, Free}
use Rattle.lang_specs.specs.Expressions.{AreJoined, IsName, IsLiteral, minus_if, IsNum, IsFactor, minus_or_plus, AreMoreTerms, IsExpr, sign_mark, IsRow, AreRows, IsBetween, IsBox, IsBound, IsAct, IsGuard, AreActs}
use Rattle.lang_specs.specs.Grammar.{unsafe_if, version}
use Rattle.lang_specs.proofs.EachLemmas.{Each, each_append, each_to}
use Rattle.lang_order.specs.Statements.{Statement, Version, Automaton, Vars, Obs, Loc, Init, Inv, Flow, Also, Trans, End, first_word, IsBody}
use Rattle.lang_order.specs.Beginnings.{is_line_end}

-- the end of a line, or of the text
abbrev pub is_end : Kind → Bool
is_end kinds.EndLine = true
is_end kinds.EndText = true
is_end k = false

abbrev pub IsInside : Mark → Type 0
IsInside m = is_end m.kind ≡ false

-- none of these is an end
abbrev pub AreInside : List Mark → Type 0
AreInside ms = Each IsInside ms

-- none of these is the end of a line
abbrev pub NoEnd : List Mark → Type 0
NoEnd ms = Each (λ m. is_line_end m.kind ≡ false) ms

both_inside : (xs ys : List Mark) → AreInside xs → AreInside ys → AreInside (xs ++ ys)
both_inside xs ys h k = each_append IsInside xs ys h k

moved : (ms ns : List Mark) → ms ≡ ns → AreInside ns → AreInside ms
moved ms ns e h = subst AreInside (sym e) h

-- ---- items

of_name : (ms : List Mark) (name : List ℕ) → IsName ms name → AreInside ms
of_name ms name e = moved ms (a_name name ∷ []) e (refl, tt)

of_literal : (ms : List Mark) (v : Fraction) → IsLiteral ms v → AreInside ms
of_literal ms v (text, e, h) = moved ms (a_number text ∷ []) e (refl, tt)

of_minus : (neg : Bool) → AreInside (minus_if neg)
of_minus true = (refl, tt)
of_minus false = tt

of_joint : (neg : Bool) → IsInside (minus_or_plus neg)
of_joint true = refl
of_joint false = refl

of_num : (ms : List Mark) (v : Fraction) → IsNum ms v → AreInside ms
of_num ms v (neg, size, front, e, h, k) =
    moved ms (minus_if neg ++ front) e (both_inside (minus_if neg) front (of_minus neg) (of_literal front size h))

of_factor : (ms : List Mark) (v : Fraction) (var : Option (List ℕ)) → IsFactor ms v var → AreInside ms
of_factor ms v None h = of_literal ms v h
of_factor ms v (Some name) (inl (front, e, h)) =
    moved ms (front ++ the kinds.Times ∷ a_name name ∷ []) e
    (both_inside front (the kinds.Times ∷ a_name name ∷ []) (of_literal front v h) (refl, (refl, tt)))
of_factor ms v (Some name) (inr (e, h)) = moved ms (a_name name ∷ []) e (refl, tt)

of_more : (ms : List Mark) (ts : List Term) → AreMoreTerms ms ts → AreInside ms
of_more ms [] e = moved ms [] e tt
of_more ms (t ∷ ts) (f, r, e, h, k) =
    moved ms (minus_or_plus t.neg ∷ f ++ r) e (of_joint t.neg, both_inside f r (of_factor f t.value t.var h) (of_more r ts k))

of_expr : (ms : List Mark) (ts : List Term) → IsExpr ms ts → AreInside ms
of_expr ms [] h = absurd h
of_expr ms (t ∷ ts) (f, r, e, h, k) =
    moved ms (minus_if t.neg ++ f ++ r) e
    (both_inside (minus_if t.neg ++ f) r (both_inside (minus_if t.neg) f (of_minus t.neg) (of_factor f t.value t.var h)) (of_more r ts k))

of_sign : (s : Sign) → IsInside (sign_mark s)
of_sign signs.AtMost = refl
of_sign signs.AtLeast = refl
of_sign signs.Equal = refl
of_sign signs.Less = refl
of_sign signs.Greater = refl

of_row : (strict : Bool) (ms : List Mark) (r : RowTree) → IsRow strict ms r → AreInside ms
of_row strict ms r (f, g, e, h, k, l) =
    moved ms (f ++ sign_mark r.sign ∷ g) e (both_inside f (sign_mark r.sign ∷ g) (of_expr f r.left h) (of_sign r.sign, of_expr g r.right l))

-- ---- lists

of_joined : {X : Type 0} (Is : List Mark → X → Type 0) → ((ms : List Mark) (x : X) → Is ms x → AreInside ms) → (ms : List Mark) (xs : List X) →
    AreJoined Is ms xs → AreInside ms
of_joined Is each ms [] h = absurd h
of_joined Is each ms (x ∷ []) h = each ms x h
of_joined Is each ms (x ∷ y ∷ xs) (f, r, e, h, k) =
    moved ms (f ++ the kinds.Comma ∷ r) e (both_inside f (the kinds.Comma ∷ r) (each f x h) (refl, of_joined Is each r (y ∷ xs) k))

of_rows : (strict : Bool) (ms : List Mark) (rs : List RowTree) → AreRows strict ms rs → AreInside ms
of_rows strict ms [] e = moved ms (the kinds.True ∷ []) e (refl, tt)
of_rows strict ms (r ∷ rs) h = of_joined (IsRow strict) (of_row strict) ms (r ∷ rs) h

of_between : {X : Type 0} (Is : List Mark → X → Type 0) → ((ms : List Mark) (x : X) → Is ms x → AreInside ms) → (ms : List Mark) (lo hi : X) →
    IsBetween Is ms lo hi → AreInside ms
of_between Is each ms lo hi (f, r, e, h, k) =
    moved ms (the kinds.Open ∷ f ++ the kinds.Comma ∷ r ++ the kinds.Close ∷ []) e
    (refl, both_inside (f ++ the kinds.Comma ∷ r) (the kinds.Close ∷ []) (both_inside f (the kinds.Comma ∷ r) (each f lo h) (refl, each r hi k)) (refl, tt))

of_box : (ms : List Mark) (b : BoxTree) → IsBox ms b → AreInside ms
of_box ms b (r, e, h) = moved ms (a_name b.var ∷ the kinds.In ∷ r) e (refl, (refl, of_between IsNum of_num r b.lo b.hi h))

of_bound : (ms : List Mark) (b : BoundTree) → IsBound ms b → AreInside ms
of_bound ms b (r, e, h) = moved ms (a_name b.var ∷ the kinds.Within ∷ r) e (refl, (refl, of_literal r b.within h))

of_act : (ms : List Mark) (a : Act) → IsAct ms a → AreInside ms
of_act ms (Set var value) (r, e, h) = moved ms (a_name var ∷ the kinds.Equal ∷ r) e (refl, (refl, of_expr r value h))
of_act ms (Within var lo hi) (r, e, h) = moved ms (a_name var ∷ the kinds.In ∷ r) e (refl, (refl, of_between IsExpr of_expr r lo hi h))
of_act ms (Free var) e = moved ms (the kinds.Free ∷ a_name var ∷ []) e (refl, (refl, tt))

of_guard : (strict : Bool) (ms : List Mark) (rs : List RowTree) → IsGuard strict ms rs → AreInside ms
of_guard strict ms rs (inl h) = moved ms [] h.0 tt
of_guard strict ms rs (inr (r, e, h)) = moved ms (the kinds.When ∷ r) e (refl, of_rows strict r rs h)

of_acts : (ms : List Mark) (acts : List Act) → AreActs ms acts → AreInside ms
of_acts ms [] e = moved ms [] e tt
of_acts ms (a ∷ acts) (r, e, h) = moved ms (the kinds.Set ∷ r) e (refl, of_joined IsAct of_act r (a ∷ acts) h)

of_unsafe : (u : Bool) → AreInside (unsafe_if u)
of_unsafe true = (refl, tt)
of_unsafe false = tt

-- ---- statements

of_body : (v : Bool) (ms : List Mark) (s : Statement) → IsBody v ms s → AreInside ms
of_body v ms (Version w) e = moved ms (a_number (version w) ∷ []) e (refl, tt)
of_body v ms (Automaton name) e = of_name ms name e
of_body v ms (Vars names) h = of_joined IsName of_name ms names h
of_body v ms (Obs bounds) h = of_joined IsBound of_bound ms bounds h.1
of_body v ms (Loc name u) e = moved ms (a_name name ∷ unsafe_if u) e (refl, of_unsafe u)
of_body v ms (Init rows) h = of_rows v ms rows h
of_body v ms (Inv rows) h = of_rows v ms rows h
of_body v ms (Flow boxes) h = of_joined IsBox of_box ms boxes h
of_body v ms (Also rows) h = of_rows false ms rows h
of_body v ms (Trans from to label guard acts) (w, s, e, g, a) =
    moved ms (a_name from ∷ the kinds.Arrow ∷ a_name to ∷ the kinds.As ∷ a_name label ∷ w ++ s) e
    (refl, (refl, (refl, (refl, (refl, both_inside w s (of_guard v w guard g) (of_acts s acts a))))))
of_body v ms End e = moved ms [] e tt

of_word : (s : Statement) → is_end (first_word s) ≡ false
of_word (Version w) = refl
of_word s = refl

-- the tokens of a statement are inside its line
pub inside_of : (v : Bool) (body : List Mark) (s : Statement) → IsBody v body s → AreInside (the (first_word s) ∷ body)
inside_of v body s h = (of_word s, of_body v body s h)

no_line_end : (k : Kind) → is_end k ≡ false → is_line_end k ≡ false
no_line_end kinds.EndLine h = h
no_line_end k h = refl

pub no_end_of : (v : Bool) (body : List Mark) (s : Statement) → IsBody v body s → NoEnd (the (first_word s) ∷ body)
no_end_of v body s h =
    each_to IsInside (λ m. is_line_end m.kind ≡ false) (λ m. no_line_end m.kind) (the (first_word s) ∷ body) (inside_of v body s h)
