-- Reading a name, and a bound, accepts what spells it and nothing else, and each place can be completed.
use Rattle.std.proofs.Common.{◌≡◌, ℕ, List, [], ◌∷◌, ◌++◌, Some, None, refl, sym, ap, ◌∙◌, subst}
use Rattle.lang_specs.specs.declared.Kind.TheVariants.{Name, Number, Within, Comma, EndLine}
use Rattle.lang_specs.specs.Marks.{Mark, the, a_name, a_number}
use Rattle.lang_tokens.specs.Kinds.{same_kind}
use Rattle.lang_lists.specs.NameMachine as names
use Rattle.lang_lists.specs.NameMachine.{in_name}
use Rattle.lang_lists.specs.BoundMachine as bounds
use Rattle.lang_lists.specs.BoundMachine.{Bound, in_bound, IsBoundValue}
use Rattle.lang_specs.specs.Trees.{BoundTree}
use Rattle.lang_specs.specs.Expressions.{IsName, IsBound}
use Rattle.lang_tokens.specs.LineFaults.{AreLiterals}
use Rattle.lang_tokens.proofs.LiteralMarks.{zero_text, nought, literal_value}
use Rattle.lang_tokens.proofs.Walks.{IsClean, is_the, is_a_name, is_a_number, if_some, walk, and_walk}
use Rattle.lang_tokens.proofs.LimitLemmas.{ArePlain}
use Rattle.lang_tokens.proofs.JoinedLaws.{Any, Laws, LimitLaws, Values, finish}
use Rattle.lang_lists.specs.SixAtMost.{six_at_most}
use Rattle.lang_lists.proofs.SixLaws.{six_laws}

-- ---- names

abbrev pub spell_name : List ℕ → List Mark
spell_name name = a_name name ∷ []

abbrev pub said_name : names.Place → List Mark
said_name names.at_name = []
said_name (names.behind name) = a_name name ∷ []

name_more : (p q : names.Place) (m : Mark) → IsClean m → in_name p m ≡ Some q → said_name q ≡ said_name p ++ m ∷ []
unfolding in_name
name_more names.at_name q m c e =
    let h = if_some (same_kind m.kind Name) (names.behind m.text) q e in
    subst (λ x. said_name x ≡ m ∷ []) h.1 (ap (λ x. x ∷ []) (sym (is_a_name m h.0)))
name_more (names.behind name) q m c e = absurd cc

name_complete : (p : names.Place) (x : List ℕ) → names.made p ≡ Some x → said_name p ≡ spell_name x
name_complete names.at_name x e = absurd cc
name_complete (names.behind name) x e = let same : name ≡ x = cc in ap spell_name same

name_accepts : (x : List ℕ) → (p : names.Place) × (walk in_name names.at_name (spell_name x) ≡ Some p) × (names.made p ≡ Some x)
unfolding walk and_walk in_name
name_accepts x = (names.behind x, refl, refl)

behind_name : (p : names.Place) (x : List ℕ) (m : Mark) → names.made p ≡ Some x → in_name p m ≡ None
unfolding in_name
behind_name names.at_name x m e = absurd cc
behind_name (names.behind name) x m e = refl

name_finishes : (p : names.Place) → (more : List Mark) × (x : List ℕ) × (said_name p ++ more ≡ spell_name x) × ArePlain more
name_finishes names.at_name = (a_name (120 ∷ []) ∷ [], 120 ∷ [], refl, (refl, tt))
name_finishes (names.behind name) = ([], name, refl, tt)

pub name_laws : Laws names.names spell_name said_name Any Any
name_laws = record {
  at_start = refl;
  one_more = name_more;
  complete = name_complete;
  start_fine = tt;
  stays_fine = λ p q m h e. tt;
  made_good = λ p x h e. tt;
  accepts = λ x h. name_accepts x;
  no_comma = λ p x e. behind_name p x (the Comma) e;
  no_end = λ p x e. behind_name p x (the EndLine) e;
  finishes = name_finishes;
  finish_good = λ p h. tt;
}

abbrev pub SameName : List ℕ → List ℕ → Type 0
SameName x y = x ≡ y

pub name_limits : LimitLaws names.names (finish names.names spell_name said_name Any Any name_laws) SameName six_at_most
name_limits = six_laws names.at_name in_name names.made (finish names.names spell_name said_name Any Any name_laws) SameName

-- ---- bounds

-- `NAME within LITERAL`
abbrev pub spell_bound : Bound → List Mark
spell_bound b = a_name b.var ∷ the Within ∷ a_number b.text ∷ []

abbrev pub said_bound : bounds.Place → List Mark
said_bound bounds.at_var = []
said_bound (bounds.at_within v) = a_name v ∷ []
said_bound (bounds.at_literal v) = a_name v ∷ the Within ∷ []
said_bound (bounds.behind b) = spell_bound b

bound_more : (p q : bounds.Place) (m : Mark) → IsClean m → in_bound p m ≡ Some q → said_bound q ≡ said_bound p ++ m ∷ []
unfolding in_bound
bound_more bounds.at_var q m c e =
    let h = if_some (same_kind m.kind Name) (bounds.at_within m.text) q e in
    subst (λ x. said_bound x ≡ m ∷ []) h.1 (ap (λ x. x ∷ []) (sym (is_a_name m h.0)))
bound_more (bounds.at_within v) q m c e =
    let h = if_some (same_kind m.kind Within) (bounds.at_literal v) q e in
    subst (λ x. said_bound x ≡ a_name v ∷ m ∷ []) h.1 (ap (λ x. a_name v ∷ x ∷ []) (sym (is_the m Within c refl h.0)))
bound_more (bounds.at_literal v) q m c e =
    let h = if_some (same_kind m.kind Number) (bounds.behind (record { var = v; text = m.text })) q e in
    subst (λ x. said_bound x ≡ a_name v ∷ the Within ∷ m ∷ []) h.1 (ap (λ x. a_name v ∷ the Within ∷ x ∷ []) (sym (is_a_number m h.0)))
bound_more (bounds.behind b) q m c e = absurd cc

bound_complete : (p : bounds.Place) (x : Bound) → bounds.made p ≡ Some x → said_bound p ≡ spell_bound x
bound_complete bounds.at_var x e = absurd cc
bound_complete (bounds.at_within v) x e = absurd cc
bound_complete (bounds.at_literal v) x e = absurd cc
bound_complete (bounds.behind b) x e = let same : b ≡ x = cc in ap spell_bound same

bound_accepts : (x : Bound) → (p : bounds.Place) × (walk in_bound bounds.at_var (spell_bound x) ≡ Some p) × (bounds.made p ≡ Some x)
unfolding walk and_walk in_bound
bound_accepts x = (bounds.behind x, refl, refl)

behind_bound : (p : bounds.Place) (x : Bound) (m : Mark) → bounds.made p ≡ Some x → in_bound p m ≡ None
unfolding in_bound
behind_bound bounds.at_var x m e = absurd cc
behind_bound (bounds.at_within v) x m e = absurd cc
behind_bound (bounds.at_literal v) x m e = absurd cc
behind_bound (bounds.behind b) x m e = refl

bound_finishes : (p : bounds.Place) → (more : List Mark) × (x : Bound) × (said_bound p ++ more ≡ spell_bound x) × ArePlain more
bound_finishes bounds.at_var =
    (a_name (120 ∷ []) ∷ the Within ∷ nought ∷ [], record { var = 120 ∷ []; text = zero_text }, refl, (refl, (refl, (refl, tt))))
bound_finishes (bounds.at_within v) = (the Within ∷ nought ∷ [], record { var = v; text = zero_text }, refl, (refl, (refl, tt)))
bound_finishes (bounds.at_literal v) = (nought ∷ [], record { var = v; text = zero_text }, refl, (refl, tt))
bound_finishes (bounds.behind b) = ([], b, refl, tt)

pub bound_laws : Laws bounds.bounds spell_bound said_bound Any Any
bound_laws = record {
  at_start = refl;
  one_more = bound_more;
  complete = bound_complete;
  start_fine = tt;
  stays_fine = λ p q m h e. tt;
  made_good = λ p x h e. tt;
  accepts = λ x h. bound_accepts x;
  no_comma = λ p x e. behind_bound p x (the Comma) e;
  no_end = λ p x e. behind_bound p x (the EndLine) e;
  finishes = bound_finishes;
  finish_good = λ p h. tt;
}

pub bound_limits : LimitLaws bounds.bounds (finish bounds.bounds spell_bound said_bound Any Any bound_laws) IsBoundValue six_at_most
bound_limits = six_laws bounds.at_var in_bound bounds.made (finish bounds.bounds spell_bound said_bound Any Any bound_laws) IsBoundValue

-- ---- values

name_valued : (x : List ℕ) → AreLiterals (spell_name x) → (y : List ℕ) × (x ≡ y)
name_valued x h = (x, refl)

pub name_values : Values spell_name IsName SameName Any
name_values = record { spells = λ x y g e. ap spell_name e; spelled = λ ms y h. (y, h, refl, tt); valued = λ x g h. name_valued x h }

bound_spells : (b : Bound) (y : BoundTree) → IsBoundValue b y → IsBound (spell_bound b) y
bound_spells b y (e, h) = (a_number b.text ∷ [], ap (λ z. a_name z ∷ the Within ∷ a_number b.text ∷ []) e, (b.text, refl, h))

bound_spelled : (ms : List Mark) (y : BoundTree) → IsBound ms y → (b : Bound) × (ms ≡ spell_bound b) × IsBoundValue b y
bound_spelled ms y (rest, p, (text, q, h)) = (record { var = y.var; text = text }, p ∙ ap (λ z. a_name y.var ∷ the Within ∷ z) q, (refl, h))

bound_valued : (b : Bound) → AreLiterals (spell_bound b) → (y : BoundTree) × IsBoundValue b y
bound_valued b h = let one = literal_value b.text h.1.1.0 in (record { var = b.var; within = one.0 }, (refl, one.1))

pub bound_values : Values spell_bound IsBound IsBoundValue Any
bound_values = record { spells = λ b y g h. bound_spells b y h; spelled = λ ms y h. (let s = bound_spelled ms y h in (s.0, s.1, s.2, tt)); valued = λ b g h. bound_valued b h }
