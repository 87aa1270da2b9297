-- What a reader found in a line, and where it stopped, told of the statement that the line is.
use Rattle.std.proofs.Common.{◌≡◌, inl, inr, ℕ, Bool, true, List, [], ◌∷◌, ◌++◌, map, refl, sym, ap, ◌∙◌, subst}
use Rattle.std.specs.List.{list_all}
use Rattle.lang_specs.specs.declared.Which.{Which}
use Rattle.lang_specs.specs.declared.Which.TheVariants.{Automata, Variables, Locations, Transitions, Rows, Terms, NameBytes, Digits}
use Rattle.lang_specs.specs.declared.Kind.{Kind}
use Rattle.lang_specs.specs.declared.Kind.TheVariants.{EndLine}
use Rattle.lang_specs.specs.Tokens.{Placed}
use Rattle.lang_specs.specs.Marks.{Mark, the}
use Rattle.lang_specs.specs.FirstFault.{SyntaxAt, LimitAt}
use Rattle.lang_tokens.specs.declared.tokens.Token.{Token}
use Rattle.lang_tokens.specs.declared.faults.LineFault.{LineFault}
use Rattle.lang_tokens.specs.declared.faults.LineFault.TheVariants as faults
use Rattle.lang_tokens.specs.Places.{placed_of}
use Rattle.lang_tokens.specs.Machines.{token_keeps}
use Rattle.lang_tokens.specs.LineFaults.{Keeping, marks_keep, IsLineWithin, IsViableLineWithin, HasLineKept, IsFirstLineFault, IsLineFault}
use Rattle.lang_tokens.proofs.Walks.{both}
use Rattle.lang_tokens.proofs.LimitLemmas.{both_so, keep_append, plain_keep}
use Rattle.lang_order.specs.Statements.{Statement}
use Rattle.lang_order.specs.LineLimits.{line_keeps}
use Rattle.lang_order.specs.Beginnings as orders
use Rattle.lang_order.specs.FaultsByLines.{marks, StandIn}
use Rattle.lang_order.specs.Bodies.{KeepsAs, HasKeptSo, IsFaultSo}
use Rattle.lang_order.proofs.Things.{Says, fault_in}
use Rattle.lang_lines.specs.Lines.{IsRead, IsBodyFault}

-- ---- the line of the tokens

pub stand : (line : ℕ) (tokens : List Token) → StandIn line (map (placed_of line) tokens)
stand line [] = tt
stand line (t ∷ ts) = (refl, stand line ts)

stand_token : (line : ℕ) (front : List Placed) (t : Placed) (rest : List Placed) → StandIn line (front ++ t ∷ rest) → t.line ≡ line
stand_token line [] t rest h = h.0
stand_token line (u ∷ front) t rest h = stand_token line front t rest h.1

-- ---- a line keeps to a limit where what it says does, and its tokens do

keep_front : (which : Which) (ms ns : List Mark) → marks_keep which (ms ++ ns) ≡ true → marks_keep which ms ≡ true
keep_front which [] ns h = refl
keep_front which (m ∷ ms) ns h =
    let p = both (token_keeps which m) (marks_keep which (ms ++ ns)) h in both_so (token_keeps which m) (marks_keep which ms) p.0 (keep_front which ms ns p.1)

all_so : (ms : List Mark) → list_all (λ m. true) ms ≡ true
all_so [] = refl
all_so (m ∷ ms) = all_so ms

tokens_keep : (which : Which) (inside : List Mark) (s : Statement) → line_keeps which [] s ≡ true → marks_keep which inside ≡ true → line_keeps which inside s ≡ true
tokens_keep Automata inside s h k = refl
tokens_keep Variables inside s h k = h
tokens_keep Locations inside s h k = refl
tokens_keep Transitions inside s h k = refl
tokens_keep Rows inside s h k = h
tokens_keep Terms inside s h k = h
tokens_keep NameBytes inside s h k = k
tokens_keep Digits inside s h k = k

keeps_apart : (which : Which) (inside : List Mark) (s : Statement) → line_keeps which inside s ≡ true → (line_keeps which [] s ≡ true) × (marks_keep which inside ≡ true)
keeps_apart Automata inside s h = (refl, all_so inside)
keeps_apart Variables inside s h = (h, all_so inside)
keeps_apart Locations inside s h = (refl, all_so inside)
keeps_apart Transitions inside s h = (refl, all_so inside)
keeps_apart Rows inside s h = (h, all_so inside)
keeps_apart Terms inside s h = (h, all_so inside)
keeps_apart NameBytes inside s h = (refl, h)
keeps_apart Digits inside s h = (refl, h)

module _ {X : Type 0} (Is : List Mark → X → Type 0) (keeps : Keeping X) (C : X → Statement) (alike : (which : Which) (x : X) → line_keeps which [] (C x) ≡ keeps which x) where
  line_kept : (which : Which) (inside ms : List Mark) (x : X) → ms ≡ inside ++ the EndLine ∷ [] → keeps which x ≡ true → marks_keep which ms ≡ true →
      line_keeps which inside (C x) ≡ true
  line_kept which inside ms x e k t =
      tokens_keep which inside (C x) (alike which x ∙ k) (keep_front which inside (the EndLine ∷ []) (ap (marks_keep which) (sym e) ∙ t))

  within_so : (which : Which) (ms : List Mark) → IsViableLineWithin Is keeps which ms → orders.IsViableLineWithin Is (KeepsAs C which) ms
  within_so which ms (more, x, (inside, e, h), k, t) = (more, x, (inside, e, (h, line_kept which inside (ms ++ more) x e k t)))

  within_back : (which : Which) (ms : List Mark) → orders.IsViableLineWithin Is (KeepsAs C which) ms → IsViableLineWithin Is keeps which ms
  within_back which ms (more, x, (inside, e, (h, g))) =
      let k = keeps_apart which inside (C x) g in (
        more,
        x,
        (inside, e, h),
        sym (alike which x) ∙ k.0,
        ap (marks_keep which) e ∙ keep_append which inside (the EndLine ∷ []) k.1 (plain_keep which (the EndLine ∷ []) (refl, tt)),
      )

  kept_so : (which : Which) (ms : List Mark) → HasLineKept Is keeps which ms → HasKeptSo Is (KeepsAs C which) ms
  kept_so which ms (inl h) = inl (within_so which ms h)
  kept_so which ms (inr j) = inr (record { front = j.front; joint = j.joint; parts = j.parts; joins = j.joins; before = within_so which j.front j.before })

  kept_back : (which : Which) (ms : List Mark) → HasKeptSo Is (KeepsAs C which) ms → HasLineKept Is keeps which ms
  kept_back which ms (inl h) = inl (within_back which ms h)
  kept_back which ms (inr j) = inr (record { front = j.front; joint = j.joint; parts = j.parts; joins = j.joins; before = within_back which j.front j.before })

  syntax_so : (line : ℕ) (ts : List Placed) (column : ℕ) → StandIn line ts → IsFirstLineFault Is keeps ts (faults.Syntax column) → IsFaultSo Is (KeepsAs C) ts (SyntaxAt line column)
  syntax_so line ts column here h =
      let at_line = stand_token line h.front h.token h.rest (subst (StandIn line) h.parts here) in
      record {
        front = h.front;
        token = h.token;
        rest = h.rest;
        parts = h.parts;
        viable = h.viable;
        kept = λ some others which e. kept_so which some (h.kept some others which e);
        wrong = (h.wrong.0, sym at_line, h.wrong.1);
      }

  limit_so : (line : ℕ) (ts : List Placed) (which : Which) → StandIn line ts → IsFirstLineFault Is keeps ts (faults.Limit which) → IsFaultSo Is (KeepsAs C) ts (LimitAt line which)
  limit_so line ts which here h =
      let at_line = stand_token line h.front h.token h.rest (subst (StandIn line) h.parts here) in
      let ms = marks (h.front ++ h.token ∷ []) in
      record {
        front = h.front;
        token = h.token;
        rest = h.rest;
        parts = h.parts;
        viable = h.viable;
        kept = λ some others w e. kept_so w some (h.kept some others w e);
        wrong = (h.wrong.0, λ k. h.wrong.1 (kept_back which ms k), λ other none. h.wrong.2 other (λ k. none (kept_so other ms k)), sym at_line);
      }

  module _ (second : Bool) (word : Kind) (says : Says second word Is C) where
    -- what was found behind the word
    pub is_read : (ms : List Mark) (x : X) → IsLineWithin Is keeps ms x → IsRead second word ms (C x)
    is_read ms x h =
        (h.is.0, h.is.1, says.into h.is.0 x h.is.2, λ which. line_kept which h.is.0 ms x h.is.1 (h.kept which) (h.tokens_kept which))

    -- what is wrong behind the word
    pub body_fault : (line : ℕ) (ts : List Placed) (e : LineFault) → StandIn line ts → IsLineFault Is keeps ts e → IsBodyFault second line word ts e
    body_fault line ts faults.Memory here h = tt
    body_fault line ts (faults.Syntax column) here h = fault_in second word Is C says ts (SyntaxAt line column) (syntax_so line ts column here h)
    body_fault line ts (faults.Limit which) here h = fault_in second word Is C says ts (LimitAt line which) (limit_so line ts which here h)
