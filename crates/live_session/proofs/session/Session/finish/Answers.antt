use Rattle.std.proofs.Common.{◌≡◌, Some, refl, sym, ◌∙◌, ap, subst}
use Rattle.std.specs.Arc.{arc_value}
use Rattle.std.specs.Option.{option_copied}
use Rattle.run_specs.specs.Sessions.{MonitorSession, Begun}
use Rattle.live_session.specs.Entries.{entries_of, given_of, with_given, verdict_with}
use Rattle.live_session.proofs.StoredLemmas.{is_begun, finish_by}
use Rattle.live_session.proofs.session.Session.finish.Goals as goal

pub unwrap-prepared-requires : goal.unwrap-prepared-requires
unwrap-prepared-requires c =
    let b = is_begun c.self.inside.begun c.requires.begun.0 (subst (λ (z : MonitorSession). z.phase ≡ Begun c.requires.begun.0) (sym c.self.view_is) c.requires.begun.1) in
    rw (c.take.ensures.value, b.1) refl

pub push_reserved-requires : goal.push_reserved-requires
push_reserved-requires c =
    let has : c.self.inside.begun ≡ Some c.unwrap-prepared.result = sym c.take.ensures.value ∙ c.unwrap-prepared.ensures in
    let ready = rw has at c.self.invariant.ready in ready.log

pub add_given-requires : goal.add_given-requires
add_given-requires c =
    let has : c.self.inside.begun ≡ Some c.unwrap-prepared.result = sym c.take.ensures.value ∙ c.unwrap-prepared.ensures in
    let ready = rw has at c.self.invariant.ready in ready.gaps

pub invariant_of-self : goal.invariant_of-self
invariant_of-self c =
    let i = c.self.inside in
    (finish_by (arc_value i.automaton) i.jumps i.opened i.opening (entries_of i.gaps.items) (entries_of c.add_given.new.gaps.items) i.columns.items i.log.items c.push_reserved.new.self.items
    (given_of i.given) (given_of c.take-2.new.self) i.begun c.take.new.self c.unwrap-prepared.result c.verdict_with-verdict.result c.args.self.now _ _ _ _ c.self.invariant c.self.view_is
    (sym c.take.ensures.value ∙ c.unwrap-prepared.ensures) c.requires.nothing_wanted
    (c.add_given.ensures ∙ ap (λ x. with_given (entries_of i.gaps.items) (given_of x)) c.take-2.ensures.value) c.push_reserved.ensures.items
    (c.verdict_with-verdict.ensures ∙ ap (λ gs. verdict_with i.opened (entries_of gs) (given_of (option_copied c.as_ref.result))) c.as_slice.ensures.value
    ∙ ap (λ x. verdict_with i.opened (entries_of i.gaps.items) (given_of x)) c.as_ref.ensures.value)
    (ap (λ x. given_of x) c.take-2.ensures.after) c.take.ensures.after).stored

pub returns : goal.returns
returns c =
    let i = c.self.inside in
    let f =
    finish_by (arc_value i.automaton) i.jumps i.opened i.opening (entries_of i.gaps.items) (entries_of c.add_given.new.gaps.items) i.columns.items i.log.items c.push_reserved.new.self.items
    (given_of i.given) (given_of c.take-2.new.self) i.begun c.take.new.self c.unwrap-prepared.result c.verdict_with-verdict.result c.args.self.now _ _ Unit Unit c.self.invariant c.self.view_is
    (sym c.take.ensures.value ∙ c.unwrap-prepared.ensures) c.requires.nothing_wanted
    (c.add_given.ensures ∙ ap (λ x. with_given (entries_of i.gaps.items) (given_of x)) c.take-2.ensures.value) c.push_reserved.ensures.items
    (c.verdict_with-verdict.ensures ∙ ap (λ gs. verdict_with i.opened (entries_of gs) (given_of (option_copied c.as_ref.result))) c.as_slice.ensures.value
    ∙ ap (λ x. verdict_with i.opened (entries_of i.gaps.items) (given_of x)) c.as_ref.ensures.value)
    (ap (λ x. given_of x) c.take-2.ensures.after) c.take.ensures.after in
    record { finishes = f.step; lawful = f.lawful; stays = f.stays }
