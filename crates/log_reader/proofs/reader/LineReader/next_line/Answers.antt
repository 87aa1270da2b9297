use Rattle.std.proofs.Common.{◌≡◌, sym, subst, ◌∙◌, IfOk, OnErr}
use Rattle.log_reader.specs.Reading.{Moves, GivesFrom, GivesNext}
use Rattle.log_reader.proofs.MoveLemmas.{next_moves, fails_moves, memory_moves}
use Rattle.log_reader.proofs.reader.LineReader.next_line.Goals as goal
use Rattle.log_reader.proofs.reader.LineReader.next_line.Goals.{in-Some, in-None}

pub returns-in-Ok-line-clause-gives : goal.returns-in-Ok-line-clause-gives
returns-in-Ok-line-clause-gives g c =
    let m = c.fill_to_feed.new.self in
    elim c.match-found.branch [
      | in-Some w ↦
          let i = w.take_line-line in
          subst (λ z. Moves (GivesNext (g.L.Source.told c.args.source.now) (g.L.Source.told c.fill_to_feed.new.source) c.in-Ok-line.line) c.args.self.now z) (sym w.self-is)
          (next_moves _ _ c.args.self.now m i.new.self c.in-Ok-line.line c.fill_to_feed.ensures.fills
          (subst (λ x. IfOk x (λ line. Moves (λ r s. GivesFrom r s line) m i.new.self)) (sym w.line-is ∙ c.in-Ok-line.is) i.ensures.gives))
      | in-None w ↦
          let i = w.take_last-line in
          subst (λ z. Moves (GivesNext (g.L.Source.told c.args.source.now) (g.L.Source.told c.fill_to_feed.new.source) c.in-Ok-line.line) c.args.self.now z) (sym w.self-is)
          (next_moves _ _ c.args.self.now m i.new.self c.in-Ok-line.line c.fill_to_feed.ensures.fills
          (subst (λ x. IfOk x (λ line. Moves (λ r s. GivesFrom r s line) m i.new.self)) (sym w.line-is ∙ c.in-Ok-line.is) i.ensures.gives))
    ]

pub returns-in-Err-clause-fails : goal.returns-in-Err-clause-fails
returns-in-Err-clause-fails g c = fails_moves _ _ c.args.self.now c.fill_to_feed.new.self c.in-Err.fault c.fill_to_feed.ensures.fills c.in-Err.ensures.lacks

pub returns-in-Err-line-clause-fails : goal.returns-in-Err-line-clause-fails
returns-in-Err-line-clause-fails g c =
    let m = c.fill_to_feed.new.self in
    elim c.match-found.branch [
      | in-Some w ↦
          let i = w.take_line-line in
          memory_moves _ _ c.args.self.now m c.match-found.self c.fill_to_feed.ensures.fills (w.self-is ∙ subst (λ x. OnErr x (i.new.self ≡ m)) (sym w.line-is ∙ c.in-Err-line.is) i.ensures.stays)
      | in-None w ↦
          let i = w.take_last-line in
          memory_moves _ _ c.args.self.now m c.match-found.self c.fill_to_feed.ensures.fills (w.self-is ∙ subst (λ x. OnErr x (i.new.self ≡ m)) (sym w.line-is ∙ c.in-Err-line.is) i.ensures.stays)
    ]
