-- The fault of trees that a check tells.
use Rattle.std.specs.Prelude.{◌≡◌, List, ◌∷◌, Option, Some, None}
use Rattle.model_specs.specs.Faults as faults
use Rattle.model_specs.specs.Faults.{ModelFault}
use Rattle.lha_check.specs.declared.faults.CheckFault.{CheckFault}
use Rattle.lha_check.specs.declared.faults.CheckFault.TheVariants.{UnknownName, RepeatedName, MissingSlope, EmptyBox, Passes, Memory}

-- the fault that is told; none where there was no memory
abbrev pub told : CheckFault → Option ModelFault
told (UnknownName line name) = Some (faults.UnknownName line name)
told (RepeatedName line name) = Some (faults.RepeatedName line name)
told (MissingSlope line name) = Some (faults.MissingSlope line name)
told (EmptyBox line name) = Some (faults.EmptyBox line name)
told (Passes line name) = Some (faults.Passes line name)
told Memory = None

-- it is the first of these, if a fault is told
pub record IsFirst (all : List ModelFault) (fault : CheckFault) : Type 0 where
  pub begins : (f : ModelFault) → told fault ≡ Some f → (rest : List ModelFault) × (all ≡ f ∷ rest)
