use Rattle.std.proofs.Common.{◌≡◌, ◌<◌, ◌++◌, length, map, refl, sym, ap, ◌∙◌, arith, true, false, get_or, false-eqb}
use Rattle.std.proofs.lemmas.Bool.{eqb-true}
use Rattle.lang_specs.specs.Tokens.{is_blank, begins_comment}
use Rattle.lang_tokens.specs.Places.{placed_of}
use Rattle.lang_tokens.proofs.Cutting.{cut_nothing, cut_comment, cut_blank, cut_found, ended, one_more, ne_eqb, eq_eqb}
use Rattle.lang_tokens.proofs.tokens.line_tokens.Goals as goal
use Rattle.lang_tokens.proofs.tokens.line_tokens.Goals.{else-loop-rest-test, then-loop-rest-test+else-is_blank+then-first-eq35}

pub loop-rest-preserved-then-is_blank : goal.loop-rest-preserved-then-is_blank
loop-rest-preserved-then-is_blank c =
    let rest = c.loop-rest.rest.now in
    let some : 0 < length rest = omega arith in
    let blank : is_blank (get_or rest 0 0) ≡ true = sym c.is_blank.ensures ∙ c.if-is_blank.true in
    record {
      place = omega arith;
      last_in = omega arith;
      so_far = rw c.split_at.ensures.back (ap (λ ts. map (placed_of c.args.line) c.loop-rest.found.items ++ ts) (sym (cut_blank c.args.line c.loop-rest.column c.loop-rest.last c.loop-rest.behind_literal rest some blank)) ∙ c.loop-rest.invariant.so_far);
    }

pub loop-rest-preserved : goal.loop-rest-preserved
loop-rest-preserved c =
    let rest = c.loop-rest.rest.now in
    let some : 0 < length rest = omega arith in
    let blank : is_blank (get_or rest 0 0) ≡ false = sym c.is_blank.ensures ∙ c.if-is_blank.false in
    let hash : begins_comment (get_or rest 0 0) ≡ false = ne_eqb _ _ c.if-first-eq35.false in
    let parts = c.split_at-else-first-eq35.ensures in
    let token = c.token_at-kind.ensures in
    let found = cut_found c.args.line c.loop-rest.column c.loop-rest.last c.loop-rest.behind_literal rest c.token_at-kind.result _ _ _ _
    token.kind token.size c.column_behind-last.ensures.value parts.front parts.back c.is_digit-behind_literal.ensures some blank hash token.some token.within in
    record {
      place = omega arith;
      last_in = c.column_behind-last.ensures.within c.loop-rest.invariant.last_in;
      so_far = one_more _ _ _ _ _ _ _ c.in_ok-push.ensures.items found c.loop-rest.invariant.so_far;
    }

pub returns : goal.returns
returns c =
    let rest = c.loop-rest.rest.now in
    let line = c.args.line in
    elim c.loop-rest-test.branch [
      | else-loop-rest-test w ↦
          ended line c.loop-rest.last _ _ _ _ _ c.in_ok-push-2.ensures.items refl
          (cut_nothing line c.loop-rest.column c.loop-rest.last c.loop-rest.behind_literal rest (eqb-true _ 0 (sym w.loop-rest-test.ensures))) c.loop-rest.invariant.so_far
      | then-loop-rest-test+else-is_blank+then-first-eq35 w ↦
          ended line c.loop-rest.last _ _ _ _ _ c.in_ok-push-2.ensures.items refl
          (cut_comment line c.loop-rest.column c.loop-rest.last c.loop-rest.behind_literal rest (omega (arith, false-eqb _ 0 w.loop-rest-test.ensures))
          (sym w.is_blank.ensures ∙ w.if-is_blank.false) (eq_eqb _ _ w.if-first-eq35.true)) c.loop-rest.invariant.so_far
    ]
