-- Fields and run texts that compute.
use Rattle.std.proofs.Common.{◌≡◌, [], ◌∷◌, codes, refl, true, false, replicate}
use Rattle.std.specs.Fmt.{digits}
use Rattle.csv.proofs.OnLiterals.{csv_on_literals}
use Rattle.log_specs.specs.Fields.{fields_of, is_long}
use Rattle.replay_specs.specs.RunTexts.{run_text}
use Rattle.log_specs.specs.Examples.{thirds, thirds_text, below_zero, below_zero_text}

pub fields : (fields_of (codes "open, a b ,\"x,y\",") ≡ codes "open" ∷ codes "a b" ∷ codes "x,y" ∷ [] ∷ []) × (fields_of [] ≡ [] ∷ [])
unfolding csv_on_literals
fields = (refl, refl)

pub texts : (run_text thirds.gaps ≡ thirds_text) × (run_text below_zero.gaps ≡ below_zero_text)
unfolding digits
texts = (refl, refl)

pub lengths : (is_long (replicate 4096 48) ≡ false) × (is_long (replicate 4097 48) ≡ true)
lengths = (refl, refl)
