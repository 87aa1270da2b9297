use Rattle.std.proofs.Common.{◌≡◌, ◌∙◌, sym, subst, map}
use Rattle.std.specs.Prelude.{Some, None, IfOk, IfErr, Result, option_map, string_bytes}
use Rattle.clap.specs.Words.{app_of}
use Rattle.command_words.specs.declared.fault.WordsFault.{WordsFault}
use Rattle.command_words.specs.declared.fault.WordsFault.TheVariants.{Refused}
use Rattle.command_words.specs.declared.request.Request.{Request}
use Rattle.command_words.specs.CommandLine.{request_of}
use Rattle.command_words.specs.Said.{said}
use Rattle.command_words.proofs.RequestLemmas.{words_taken, words_refused, given, refused, given_error, refused_error, found}
use Rattle.command_words.proofs.request.read_words.Goals as goal

pub returns-clause-request : goal.returns-clause-request
returns-clause-request c =
    let words = map string_bytes c.args.words.now in
    let asked : option_map said c.request_in.result ≡ request_of words = c.request_in.ensures.value
    ∙ words_taken (app_of c.in_ok-command_line.field-0) words c.in_ok-command_line.ensures c.in_ok-matches.matches c.in_ok-matches.ensures.matches c.in_ok-matches.ensures.kinds in
    subst (λ (r : Result Request WordsFault). IfOk r (λ x. request_of words ≡ Some (said x))) (sym c.ok_or.ensures.value) (given _ _ asked)

pub returns-clause-refusal : goal.returns-clause-refusal
returns-clause-refusal c =
    let words = map string_bytes c.args.words.now in
    let asked : option_map said c.request_in.result ≡ request_of words = c.request_in.ensures.value
    ∙ words_taken (app_of c.in_ok-command_line.field-0) words c.in_ok-command_line.ensures c.in_ok-matches.matches c.in_ok-matches.ensures.matches c.in_ok-matches.ensures.kinds in
    subst (λ (r : Result Request WordsFault). IfErr r (λ e. e ≡ Refused → request_of words ≡ None)) (sym c.ok_or.ensures.value) (refused _ _ asked)

pub returns-clause-found : goal.returns-clause-found
returns-clause-found c = found (request_of (map string_bytes c.args.words.now)) c.ok_or.result (returns-clause-request c) (returns-clause-refusal c)

pub returns-in_err-matches-clause-refusal : goal.returns-in_err-matches-clause-refusal
returns-in_err-matches-clause-refusal c =
    refused_error (request_of (map string_bytes c.args.words.now)) c.from_residual-in_err-matches.result _ c.from_residual-in_err-matches.ensures.1
    (words_refused (app_of c.in_ok-command_line.field-0) (map string_bytes c.args.words.now) c.in_ok-command_line.ensures
    c.in_err-matches.field-0.0 c.in_err-matches.ensures.kinds)

pub returns-in_err-matches-clause-found : goal.returns-in_err-matches-clause-found
returns-in_err-matches-clause-found c =
    let asked = request_of (map string_bytes c.args.words.now) in
    found asked c.from_residual-in_err-matches.result
    (given_error asked c.from_residual-in_err-matches.result _ c.from_residual-in_err-matches.ensures.1) (returns-in_err-matches-clause-refusal c)
