-- Walking over marks, a step for each.
use Rattle.std.proofs.Common.{◌≡◌, ◌⊎◌, inl, inr, ℕ, zero, suc, ◌&&◌, subst, Bool, true, false, if◌then◌else◌, get_or, List, [], ◌∷◌, ◌++◌, Option, Some, None, refl, sym, ap, ◌∙◌}
use Rattle.std.proofs.lemmas.Bool.{eqb-true}
use Rattle.std.specs.List.{list_all}
use Rattle.lang_specs.specs.declared.Kind.{Kind}
use Rattle.lang_specs.specs.declared.Kind.TheVariants.{Name, Number, Lha, Automaton, Var, Loc, Unsafe, Init, Inv, Flow, In, Also, Trans, As, When, Set, Free, End, True, Obs, Within, Comma, Open, Close, AtMost, AtLeast, Equal, Less, Greater, Plus, Minus, Times, Arrow, EndLine, EndText, Other}
use Rattle.lang_specs.specs.Tokens.{Placed}
use Rattle.lang_specs.specs.Marks.{has_text, Mark, mark, the, a_name, a_number}
use Rattle.lang_tokens.specs.Kinds.{code, same_kind}

-- ---- kinds

abbrev kinds : List Kind
kinds =
    Name ∷ Number ∷ Lha ∷ Automaton ∷ Var ∷ Loc ∷ Unsafe ∷ Init ∷ Inv ∷ Flow ∷ In ∷ Also ∷ Trans ∷ As ∷ When ∷ Set ∷ Free ∷ End ∷ True ∷ Obs ∷ Within
    ∷ Comma ∷ Open ∷ Close ∷ AtMost ∷ AtLeast ∷ Equal ∷ Less ∷ Greater ∷ Plus ∷ Minus ∷ Times ∷ Arrow ∷ EndLine ∷ EndText ∷ Other ∷ []

decoded : (k : Kind) → get_or kinds (code k) Other ≡ k
decoded Name = refl
decoded Number = refl
decoded Lha = refl
decoded Automaton = refl
decoded Var = refl
decoded Loc = refl
decoded Unsafe = refl
decoded Init = refl
decoded Inv = refl
decoded Flow = refl
decoded In = refl
decoded Also = refl
decoded Trans = refl
decoded As = refl
decoded When = refl
decoded Set = refl
decoded Free = refl
decoded End = refl
decoded True = refl
decoded Obs = refl
decoded Within = refl
decoded Comma = refl
decoded Open = refl
decoded Close = refl
decoded AtMost = refl
decoded AtLeast = refl
decoded Equal = refl
decoded Less = refl
decoded Greater = refl
decoded Plus = refl
decoded Minus = refl
decoded Times = refl
decoded Arrow = refl
decoded EndLine = refl
decoded EndText = refl
decoded Other = refl

pub both : (a b : Bool) → (a && b) ≡ true → (a ≡ true) × (b ≡ true)
both true b e = (refl, e)
both false b e = absurd cc

pub same_kind-true : (a b : Kind) → same_kind a b ≡ true → a ≡ b
same_kind-true a b e = sym (decoded a) ∙ ap (λ n. get_or kinds n Other) (eqb-true _ _ e) ∙ decoded b

listed : (q : Kind → Bool) (ks : List Kind) (n : ℕ) → list_all q ks ≡ true → q Other ≡ true → q (get_or ks n Other) ≡ true
listed q [] n h e = e
listed q (k ∷ ks) zero h e = (both (q k) (list_all q ks) h).0
listed q (k ∷ ks) (suc n) h e = listed q ks n (both (q k) (list_all q ks) h).1 e

-- what the list of kinds shows holds of each kind
pub every_kind : (q : Kind → Bool) → list_all q kinds ≡ true → q Other ≡ true → (k : Kind) → q k ≡ true
every_kind q h e k = subst (λ x. q x ≡ true) (decoded k) (listed q kinds (code k) h e)

-- a mark that has a text only where its kind has one
pub record IsClean (m : Mark) : Type 0 where
  pub clean : has_text m.kind ≡ false → m.text ≡ []

clean_text : (b : Bool) (text : List ℕ) → b ≡ false → (if b then text else []) ≡ []
clean_text true text e = absurd cc
clean_text false text e = refl

pub mark_is_clean : (t : Placed) → IsClean (mark t)
mark_is_clean t = record { clean = λ e. clean_text (has_text t.kind) t.text e }

mark_of : Kind → List ℕ → Mark
mark_of k text = record { kind = k; text = text }

pub is_the : (m : Mark) (k : Kind) → IsClean m → has_text k ≡ false → same_kind m.kind k ≡ true → m ≡ the k
unfolding mark_of
is_the m k c h e =
    let kind_is : m.kind ≡ k = same_kind-true m.kind k e in
    let text_is : m.text ≡ [] = c.clean (ap has_text kind_is ∙ h) in
    ap (λ x. mark_of x m.text) kind_is ∙ ap (mark_of k) text_is

pub is_a_name : (m : Mark) → same_kind m.kind Name ≡ true → m ≡ a_name m.text
unfolding mark_of
is_a_name m e = ap (λ x. mark_of x m.text) (same_kind-true m.kind Name e)

pub is_a_number : (m : Mark) → same_kind m.kind Number ≡ true → m ≡ a_number m.text
unfolding mark_of
is_a_number m e = ap (λ x. mark_of x m.text) (same_kind-true m.kind Number e)

-- ---- choices that gave something

pub if_some : {A : Type 0} (b : Bool) (x y : A) → (if b then Some x else None) ≡ Some y → (b ≡ true) × (x ≡ y)
if_some true x y e = (refl, cc)
if_some false x y e = absurd cc

pub if_either : {A : Type 0} (b d : Bool) (x z y : A) → (if b then Some x else if d then Some z else None) ≡ Some y → ((b ≡ true) × (x ≡ y)) ⊎ ((d ≡ true) × (z ≡ y))
if_either true d x z y e = inl (refl, cc)
if_either false true x z y e = inr (refl, cc)
if_either false false x z y e = absurd cc

-- ---- walks

unfoldable pub and_walk : {S : Type 0} → Option S → (S → Option S) → Option S
and_walk None f = None
and_walk (Some u) f = f u

unfoldable pub walk : {S : Type 0} → (S → Mark → Option S) → S → List Mark → Option S
walk next s [] = Some s
walk next s (m ∷ ms) = and_walk (next s m) (λ u. walk next u ms)

goes_on : {S : Type 0} (o : Option S) (f g : S → Option S) (u : S) (r : Option S) → ((v : S) → f v ≡ Some u → g v ≡ r) → and_walk o f ≡ Some u → and_walk o g ≡ r
unfolding and_walk
goes_on None f g u r h e = absurd cc
goes_on (Some v) f g u r h e = h v e

module _ {S : Type 0} (next : S → Mark → Option S) where
  -- a walk goes on where it stands
  pub walk_on : (s u : S) (ms ns : List Mark) → walk next s ms ≡ Some u → walk next s (ms ++ ns) ≡ walk next u ns
  unfolding walk
  walk_on s u [] ns e = let same : s ≡ u = cc in ap (λ v. walk next v ns) same
  walk_on s u (m ∷ ms) ns e =
      goes_on (next s m) (λ v. walk next v ms) (λ v. walk next v (ms ++ ns)) u (walk next u ns) (λ v h. walk_on v u ms ns h) e

  pub walk_one : (s : S) (m : Mark) → walk next s (m ∷ []) ≡ next s m
  unfolding walk and_walk
  walk_one s m = elim (next s m) as (λ o. and_walk o (λ u. Some u) ≡ o) [ None ↦ refl | Some u ↦ refl ]

  pub walk_more : (s u : S) (ms : List Mark) (m : Mark) → walk next s ms ≡ Some u → walk next s (ms ++ m ∷ []) ≡ next u m
  walk_more s u ms m e = walk_on s u ms (m ∷ []) e ∙ walk_one u m

  none_on : (o : Option S) (f g : S → Option S) → ((v : S) → f v ≡ None → g v ≡ None) → and_walk o f ≡ None → and_walk o g ≡ None
  unfolding and_walk
  none_on None f g h e = refl
  none_on (Some v) f g h e = h v e

  -- where a walk has stopped it stays
  pub walk_stopped : (s : S) (ms ns : List Mark) → walk next s ms ≡ None → walk next s (ms ++ ns) ≡ None
  unfolding walk
  walk_stopped s [] ns e = absurd cc
  walk_stopped s (m ∷ ms) ns e = none_on (next s m) (λ v. walk next v ms) (λ v. walk next v (ms ++ ns)) (λ v h. walk_stopped v ms ns h) e

  pub walk_step : (s u : S) (m : Mark) (ms : List Mark) → next s m ≡ Some u → walk next s (m ∷ ms) ≡ walk next u ms
  unfolding walk and_walk
  walk_step s u m ms e = rw e refl
