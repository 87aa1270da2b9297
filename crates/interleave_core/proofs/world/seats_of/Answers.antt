use Rattle.std.proofs.Common.{◌∷◌, [], ◌++◌, ap, ◌∙◌}
use Rattle.std.proofs.lemmas.List.Elements.{All-push}
use Rattle.run_specs.specs.Sessions.{IsMonitorSession}
use Rattle.interleave_core.proofs.world.seats_of.Goals as goal

pub loop-session-preserved : goal.loop-session-preserved
loop-session-preserved c = record {
  seats = c.in_ok-push.ensures.items ∙ ap (λ xs. xs ++ c.new.result ∷ []) c.loop-session.invariant.seats ∙ ap (λ x. c.loop-session.yielded ++ x ∷ []) c.new.ensures.value;
  kept = All-push IsMonitorSession c.loop-session.yielded c.in-Some.session c.loop-session.invariant.kept c.new.ensures.kept;
}
