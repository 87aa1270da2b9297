-- Numbers that pass in forming rows.
use Rattle.std.proofs.Common.{◌≡◌, ℕ, List, [], ◌∷◌, ◌++◌, Bool, false, Option, Some, None, refl, ap, subst}
use Rattle.std.specs.Prelude.{IsTrue}
use Rattle.lang_specs.specs.Trees.{Term, RowsTree, Tree}
use Rattle.model_specs.specs.Faults as faults
use Rattle.model_specs.specs.Faults.{ModelFault, if_so, unknown, names_in, unknown_in, also_faults}
use Rattle.std.specs.List.{flat_map}
use Rattle.model_rows.specs.declared.faults.RowFault.{RowFault}
use Rattle.model_rows.specs.declared.faults.RowFault.TheVariants as rows
use Rattle.lha_check.specs.declared.faults.CheckFault.{CheckFault}
use Rattle.lha_check.specs.Told.{told, IsFirst}
use Rattle.lha_check.specs.Elements.{row_fault, term_faults, also_unknown, also_passes}
use Rattle.lha_check.proofs.FirstLemmas.{no_memory}

pub one_alone : (all : List ModelFault) (f : ModelFault) (e : CheckFault) → all ≡ f ∷ [] → told e ≡ Some f → IsFirst all e
one_alone all f e is same = record { begins = λ g told_g. let s : f ≡ g = cc in ([], subst (λ h. all ≡ h ∷ []) s is) }

pub passing : (b : Bool) (fault : RowFault) (line : ℕ) (name : List ℕ) → (fault ≡ rows.Passes → IsTrue b) →
    IsFirst (if_so b (faults.Passes line name)) (row_fault fault line name)
passing b rows.Passes line name h = one_alone (if_so b (faults.Passes line name)) (faults.Passes line name) (row_fault rows.Passes line name)
    (ap (λ z. if_so z (faults.Passes line name)) (h refl)) refl
passing b rows.Memory line name h = no_memory (if_so b (faults.Passes line name)) (row_fault rows.Memory line name) refl

pub none_passes : (b : Bool) (f : ModelFault) → b ≡ false → if_so b f ≡ []
none_passes b f e = ap (λ z. if_so z f) e

-- ---- terms

term_step : (line : ℕ) (vars : List (List ℕ)) (o : Option (List ℕ)) (names : List (List ℕ)) →
    flat_map (unknown line vars) ((elim o as (λ z. List (List ℕ)) [ None ↦ [] | Some name ↦ name ∷ [] ]) ++ names)
    ≡ (elim o as (λ z. List ModelFault) [ None ↦ [] | Some name ↦ unknown line vars name ]) ++ flat_map (unknown line vars) names
term_step line vars None names = refl
term_step line vars (Some name) names = refl

pub terms_step : (line : ℕ) (vars : List (List ℕ)) (t : Term) (ts : List Term) → unknown_in line vars (t ∷ ts) ≡ term_faults line vars t ++ unknown_in line vars ts
terms_step line vars t ts = term_step line vars t.var (names_in ts)

-- ---- `also`

pub also_parts : (t : Tree) (also : Option RowsTree) → also_faults t also ≡ also_unknown t also ++ also_passes t also
also_parts t None = refl
also_parts t (Some r) = refl
