use Rattle.std.proofs.Common.{◌≡◌, ◌++◌, ◌∙◌, ap}
use Rattle.std.specs.Hash as fed
use Rattle.std.specs.Hash.{HashWrites, fed_then, fed_along}
use Rattle.frac128.specs.contracts.FracHash.TheImpl as fraction
use Rattle.run_specs.specs.Keys.{State}
use Rattle.gap_keys.specs.Views.{states_of}
use Rattle.gap_keys.proofs.KeyEquality.{fed_states}
use Rattle.gap_keys.proofs.key_equality.KeyHash.hash.Goals as goal

abbrev state_fed : State → HashWrites
state_fed s = fed.u8 s.loc ++ fed.bool s.seen_unsafe

pub returns : goal.returns
returns g c =
    let k = c.args.self.now in
    let feed = g.H.Hasher.write in
    let jumps : HashWrites = fed.u8 k.jumps in
    let gap : HashWrites = fraction.ghosts.hash_input k.gap in
    let seen : HashWrites = fed.slice (fed.option fraction.ghosts.hash_input) k.seen in
    let belief : HashWrites = fed.slice state_fed k.belief in
    let same : states_of c.states.result.now ≡ k.belief = ap (λ vs. states_of vs) c.states.ensures ∙ c.belief.ensures.value in
    fed_then feed c.args.state.now c.hash.new.state c.hash-4.new.state jumps (gap ++ seen ++ belief) (fed_along feed c.args.state.now c.hash.new.state (ap fed.u8 c.jumps.ensures.value) c.hash.ensures)
    (fed_then feed c.hash.new.state c.hash-2.new.state c.hash-4.new.state gap (seen ++ belief)
    (fed_along feed c.hash.new.state c.hash-2.new.state (ap (λ v. fraction.ghosts.hash_input v) c.gap.ensures.value) c.hash-2.ensures)
    (fed_then feed c.hash-2.new.state c.hash-3.new.state c.hash-4.new.state seen belief
    (fed_along feed c.hash-2.new.state c.hash-3.new.state (ap (λ xs. fed.slice (fed.option fraction.ghosts.hash_input) xs) c.seen.ensures.value) c.hash-3.ensures)
    (fed_along feed c.hash-3.new.state c.hash-4.new.state (fed_states state_fed c.states.result.now k.belief same) c.hash-4.ensures)))
