use Rattle.std.proofs.Common.{◌≡◌, true, map, subst}
use Rattle.std.proofs.lemmas.Result.{err_from_is_err_and}
use Rattle.lang_specs.specs.Expressions.{AreJoined, IsName}
use Rattle.lang_tokens.specs.Places.{placed_of}
use Rattle.lang_tokens.specs.Machines.{AllValues}
use Rattle.lang_tokens.specs.LineFaults.{marks, IsLineWithin}
use Rattle.lang_lists.specs.NameMachine.{names}
use Rattle.lang_lists.specs.SixAtMost.{six_at_most}
use Rattle.lang_lists.specs.NameViews.{reading_of}
use Rattle.lang_tokens.proofs.JoinedLaws.{Any, found, first_fault, if_ok}
use Rattle.lang_tokens.proofs.LimitLemmas.{not_false}
use Rattle.lang_lists.proofs.NameLaws.{SameName, spell_name, said_name, name_laws, name_limits, name_values}
use Rattle.lang_lists.proofs.names.line_names.Goals as goal

pub returns-in_err-reader-clause-fault : goal.returns-in_err-reader-clause-fault
returns-in_err-reader-clause-fault c =
    let p = err_from_is_err_and c.from_residual.result c.from_residual.ensures.1 in
    rw (p.1, p.2) (first_fault names spell_name said_name Any Any name_laws IsName SameName name_values six_at_most name_limits (map (placed_of c.args.line) c.args.tokens.now) _ c.requires c.in_err-reader.ensures)

pub returns-clause-ok : goal.returns-clause-ok
returns-clause-ok c =
    let ts = map (placed_of c.args.line) c.args.tokens.now in
    let reader = c.in_ok-reader.reader in
    let has_ended : reader.has_ended ≡ true = first_of (assumption (c.if-not-reader.false), search (c.if-not-reader.false, not_false)) in
    if_ok (λ v. AllValues SameName (map (λ x. x.now) c.deref.result.now) v.items) (λ v. IsLineWithin (AreJoined IsName) six_at_most (marks ts) v.items) c.trees.result
    (λ v h. found names spell_name said_name Any Any name_laws IsName SameName name_values six_at_most name_limits (reading_of reader) ts v.items c.requires c.in_ok-reader.ensures has_ended
    (subst (λ xs. AllValues SameName (map (λ x. x.now) xs) v.items) c.deref.ensures.value h)) c.trees.ensures.ok
