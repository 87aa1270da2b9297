-- Steps in order: their one answer, and what all of them ask.
use Rattle.std.proofs.Common.{◌≡◌, inl, inr, List, [], ◌∷◌, ◌++◌, refl, sym, ◌∙◌, subst, arith, ℤ, Result, Ok, Err}
use Rattle.std.specs.Prelude.{⊤}
use Rattle.std.specs.List.{AllByRecursion}
use Rattle.std.proofs.lemmas.List.Elements.{All-from_recursion, recursion_from_All}
use Rattle.poly_specs.specs.Bits.{FitsBits, SomePasses, NonePasses}
use Rattle.poly_specs.specs.Rows.{Row, Holds, AllHold, over}
use Rattle.replay_specs.specs.declared.checks.Stop.{Stop}
use Rattle.replay_specs.specs.declared.checks.Stop.TheVariants.{Fails}
use Rattle.replay_specs.specs.RunChecks.{Step, asks, Answers, row_steps}

pub some_or_none : (ns : List ℤ) → SomePasses ns → NonePasses ns → ⊥
some_or_none ns (k, x, lt, is, passes) h = let fits : FitsBits x = subst FitsBits is (h k x lt) in omega (arith, fits, passes)

-- ---- one answer

pub answers_once : (ss : List Step) (x y : Result ⊤ Stop) → Answers ss x → Answers ss y → x ≡ y
answers_once [] x y e f = e ∙ sym f
answers_once (s ∷ ss) x y (inl p) (inl q) = p.1 ∙ sym q.1
answers_once (s ∷ ss) x y (inl p) (inr q) = absurd (some_or_none s.numbers p.0 q.0)
answers_once (s ∷ ss) x y (inr p) (inl q) = absurd (some_or_none s.numbers q.0 p.0)
answers_once (s ∷ ss) x y (inr p) (inr q) = elim p.1 [
  | inl refused ↦ elim q.1 [ inl too ↦ refused.1 ∙ sym too.1 | inr met ↦ absurd (refused.0 met.0) ]
  | inr met ↦ elim q.1 [ inl refused ↦ absurd (refused.0 met.0) | inr also ↦ answers_once ss x y met.1 also.1 ]
]

-- ---- steps after steps

pub answers_then : (ss ts : List Step) (x : Result ⊤ Stop) → Answers ss (Ok tt) → Answers ts x → Answers (ss ++ ts) x
answers_then [] ts x h g = g
answers_then (s ∷ ss) ts x (inl p) g = absurd (let b : ⊥ = cc in b)
answers_then (s ∷ ss) ts x (inr p) g = elim p.1 [
  | inl refused ↦ absurd (let b : ⊥ = cc in b)
  | inr met ↦ inr (p.0, inr (met.0, answers_then ss ts x met.1 g))
]

pub answers_stop : (ss ts : List Step) (how : Stop) → Answers ss (Err how) → Answers (ss ++ ts) (Err how)
answers_stop [] ts how h = absurd (let b : ⊥ = cc in b)
answers_stop (s ∷ ss) ts how (inl p) = inl p
answers_stop (s ∷ ss) ts how (inr p) = elim p.1 [
  | inl refused ↦ inr (p.0, inl refused)
  | inr met ↦ inr (p.0, inr (met.0, answers_stop ss ts how met.1))
]

pub none_formed : NonePasses []
none_formed = All-from_recursion FitsBits [] tt

pub answers_asked : (A : Type 0) (ss : List Step) (x : Result ⊤ Stop) → A → Answers ss x → Answers (asks A ∷ ss) x
answers_asked A ss x h g = inr (none_formed, inr (h, g))

pub answers_refused : (A : Type 0) (ss : List Step) → (A → ⊥) → Answers (asks A ∷ ss) (Err Fails)
answers_refused A ss h = inr (none_formed, inl (h, refl))

-- ---- what all steps ask

abbrev pub AllAsked : List Step → Type 0
AllAsked [] = ⊤
AllAsked (s ∷ ss) = s.asked × AllAsked ss

pub met_asked : (ss : List Step) → Answers ss (Ok tt) → AllAsked ss
met_asked [] h = tt
met_asked (s ∷ ss) (inl p) = absurd (let b : ⊥ = cc in b)
met_asked (s ∷ ss) (inr p) = elim p.1 [
  | inl refused ↦ absurd (let b : ⊥ = cc in b)
  | inr met ↦ (met.0, met_asked ss met.1)
]

pub failed_asked : (ss : List Step) → Answers ss (Err Fails) → AllAsked ss → ⊥
failed_asked [] h g = let b : ⊥ = cc in b
failed_asked (s ∷ ss) (inl p) g = let b : ⊥ = cc in b
failed_asked (s ∷ ss) (inr p) g = elim p.1 [
  | inl refused ↦ refused.0 g.0
  | inr met ↦ failed_asked ss met.1 g.1
]

pub asked_front : (ss ts : List Step) → AllAsked (ss ++ ts) → AllAsked ss
asked_front [] ts h = tt
asked_front (s ∷ ss) ts h = (h.0, asked_front ss ts h.1)

pub asked_back : (ss ts : List Step) → AllAsked (ss ++ ts) → AllAsked ts
asked_back [] ts h = h
asked_back (s ∷ ss) ts h = asked_back ss ts h.1

pub asked_both : (ss ts : List Step) → AllAsked ss → AllAsked ts → AllAsked (ss ++ ts)
asked_both [] ts h g = g
asked_both (s ∷ ss) ts h g = (h.0, asked_both ss ts h.1 g)

-- ---- rows

module _ (d : ℤ) (ns : List ℤ) where
  each_row : (rows : List Row) → AllAsked (row_steps rows d ns) → AllByRecursion (λ r. Holds r (over d ns)) rows
  each_row [] h = tt
  each_row (r ∷ rows) h = (h.0, each_row rows h.1)

  ask_each : (rows : List Row) → AllByRecursion (λ r. Holds r (over d ns)) rows → AllAsked (row_steps rows d ns)
  ask_each [] h = tt
  ask_each (r ∷ rows) h = (h.0, ask_each rows h.1)

  pub rows_hold : (rows : List Row) → AllAsked (row_steps rows d ns) → AllHold rows (over d ns)
  rows_hold rows h = All-from_recursion (λ r. Holds r (over d ns)) rows (each_row rows h)

  pub rows_asked : (rows : List Row) → AllHold rows (over d ns) → AllAsked (row_steps rows d ns)
  rows_asked rows h = ask_each rows (recursion_from_All (λ r. Holds r (over d ns)) rows h)
