-- How a check goes on from part to part: what the rest of it answers, all of it answers.
use Rattle.std.proofs.Common.{◌≡◌, inl, inr, ℕ, ◌+◌, ◌<◌, ◌≤◌, Bool, true, false, List, [], ◌∷◌, ◌++◌, length, drop, get_or, refl, sym, ◌∙◌, subst, ℤ, Result, Ok, Err, IsTrue, ◌↔◌}
use Rattle.std.specs.Prelude.{⊤}
use Rattle.std.proofs.lemmas.List.{drop_more, drop_all}
use Rattle.poly_specs.specs.Bits.{SomePasses, NonePasses}
use Rattle.poly_specs.specs.Evaluation.{eval_numbers}
use Rattle.poly_specs.specs.Rows.{Row, Allows, over, row_value}
use Rattle.replay_specs.specs.declared.checks.Stop.{Stop}
use Rattle.replay_specs.specs.declared.checks.Stop.TheVariants.{Passes}
use Rattle.replay_specs.specs.RunChecks.{Step, Answers, row_steps}
use Rattle.replay_specs.proofs.CheckLemmas.{answers_then, answers_stop}
use Rattle.lin_row.proofs.FitLemmas.{some_passes, none_passes}

-- what the rest answers, all steps answer
pub record Leads (rest all : List Step) : Type 0 where
  pub leads : (x : Result ⊤ Stop) → Answers rest x → Answers all x

pub leads_all : (ss : List Step) → Leads ss ss
leads_all ss = record { leads = λ x h. h }

pub leads_then : (ss rest all : List Step) (y : Result ⊤ Stop) → y ≡ Ok tt → Answers ss y → Leads (ss ++ rest) all → Leads rest all
leads_then ss rest all y was h l = record { leads = λ x g. l.leads x (answers_then ss rest x (subst (Answers ss) was h) g) }

-- x is what is handed on of y, by which the part stopped
pub leads_stop : (ss rest all : List Step) (x y : Result ⊤ Stop) (how : Stop) → y ≡ Err how → x ≡ y → Answers ss y → Leads (ss ++ rest) all → Answers all x
leads_stop ss rest all x y how was same h l =
    subst (Answers all) (sym (same ∙ was)) (l.leads (Err how) (answers_stop ss rest how (subst (Answers ss) was h)))

pub leads_end : (all : List Step) → Leads [] all → Answers all (Ok tt)
leads_end all l = l.leads (Ok tt) refl

-- ---- a row

pub some_passes_not : (ns : List ℤ) → (NonePasses ns → ⊥) → SomePasses ns
some_passes_not ns h = some_passes ns (λ g. h (none_passes ns g))

module _ (r : Row) (d : ℤ) (ns : List ℤ) where
  pub row_passes : (NonePasses (eval_numbers r ns d) → ⊥) → Answers (row_steps (r ∷ []) d ns) (Err Passes)
  row_passes h = inl (some_passes_not (eval_numbers r ns d) h, refl)

  pub row_met : (v : ℤ) (ok : Bool) → NonePasses (eval_numbers r ns d) → v ≡ row_value r (over d ns) → IsTrue ok ↔ Allows r.strict v → ok ≡ true →
      Answers (row_steps (r ∷ []) d ns) (Ok tt)
  row_met v true h e g n = inr (h, inr (subst (Allows r.strict) e (g.0 refl), refl))
  row_met v false h e g n = absurd (let b : ⊥ = cc in b)

-- ---- rows in order

module _ (d : ℤ) (ns : List ℤ) (rows : List Row) (all : List Step) (i : ℕ) (r : Row) (lt : i < length rows) (is : r ≡ get_or rows i r)
    (so_far : Leads (row_steps (drop i rows) d ns) all) where
  from_here : Leads (row_steps (r ∷ []) d ns ++ row_steps (drop (i + 1) rows) d ns) all
  from_here = subst (λ (x : Row). Leads (row_steps (x ∷ drop (i + 1) rows) d ns) all) (sym is)
      (subst (λ (xs : List Row). Leads (row_steps xs d ns) all) (drop_more rows i r lt) so_far)

  pub rows_more : (y : Result ⊤ Stop) → y ≡ Ok tt → Answers (row_steps (r ∷ []) d ns) y → Leads (row_steps (drop (i + 1) rows) d ns) all
  rows_more y was h = leads_then (row_steps (r ∷ []) d ns) (row_steps (drop (i + 1) rows) d ns) all y was h from_here

  pub rows_stop : (x y : Result ⊤ Stop) (how : Stop) → y ≡ Err how → x ≡ y → Answers (row_steps (r ∷ []) d ns) y → Answers all x
  rows_stop x y how was same h = leads_stop (row_steps (r ∷ []) d ns) (row_steps (drop (i + 1) rows) d ns) all x y how was same h from_here

pub rows_end : (d : ℤ) (ns : List ℤ) (rows : List Row) (all : List Step) (i : ℕ) → length rows ≤ i → Leads (row_steps (drop i rows) d ns) all → Answers all (Ok tt)
rows_end d ns rows all i le l = leads_end all (subst (λ (xs : List Row). Leads (row_steps xs d ns) all) (drop_all i rows le) l)
