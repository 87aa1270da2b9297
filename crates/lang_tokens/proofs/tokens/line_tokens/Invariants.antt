use Rattle.std.proofs.Common.{◌≡◌, ◌+◌, ◌≤◌, ◌++◌, length, map}
use Rattle.lang_specs.specs.Tokens.{cut, line_tokens}
use Rattle.lang_tokens.specs.Places.{placed_of}
use Rattle.lang_tokens.proofs.tokens.line_tokens.Given as goal

abbrev pub invariant-loop-rest : goal.invariant-loop-rest
invariant-loop-rest l = record {
  place : l.column + length l.rest ≡ length l.text + 1;
  last_in : l.last ≤ l.column;
  so_far : map (placed_of l.line) l.found.items ++ cut l.line 0 l.column l.last l.behind_literal l.rest ≡ line_tokens l.line l.text;
}

abbrev pub decreases-loop-rest : goal.decreases-loop-rest
decreases-loop-rest l = length l.rest
