use Rattle.std.proofs.Common.{Option, Some, None, SomeIff, IsSome, refl}
use Rattle.poly_specs.specs.Fractions.{Fraction}
use Rattle.run_check.proofs.LogNumberLemmas.{differences_fit}
use Rattle.live_session.proofs.times.time_since.Goals as goal

there : (P : Type 0) (o : Option Fraction) (v : Fraction) → SomeIff o P v → P → IsSome o
there P None v h p = absurd (h p)
there P (Some x) v h p = refl

pub unwrap-requires : goal.unwrap-requires
unwrap-requires c = there _ c.sub.result _ c.sub.ensures (differences_fit c.args.time.now c.args.before.now c.requires.time c.requires.before)
