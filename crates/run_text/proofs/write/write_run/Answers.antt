use Rattle.std.proofs.Common.{◌∙◌, ◌++◌, map, ap}
use Rattle.std.proofs.lemmas.List.{map-id}
use Rattle.replay_specs.specs.RunTexts.{run_lines, ended_lines}
use Rattle.run_text.proofs.write.write_run.Goals as goal

pub returns : goal.returns
returns c =
    c.in_ok-write_behind.ensures
    ∙ ap (λ bytes. bytes ++ ended_lines (map (λ line. line) (run_lines c.args.run.now))) c.new-out.ensures.items
    ∙ ap ended_lines (map-id (run_lines c.args.run.now))
