-- What a line says behind its first word, and what is wrong with it.
use Rattle.std.specs.Prelude.{◌≡◌, ⊤, ℕ, Bool, true, false, IsTrue, List, [], ◌∷◌, ◌++◌}
use Rattle.lang_specs.specs.declared.Which.{Which}
use Rattle.lang_specs.specs.declared.Kind.{Kind}
use Rattle.lang_specs.specs.declared.Kind.TheVariants as kinds
use Rattle.lang_specs.specs.Tokens.{Placed}
use Rattle.lang_specs.specs.Marks.{Mark, the}
use Rattle.lang_specs.specs.FirstFault.{SyntaxAt, LimitAt}
use Rattle.lang_order.specs.Statements as statements
use Rattle.lang_order.specs.Statements.{Statement}
use Rattle.lang_order.specs.LineLimits.{line_keeps}
use Rattle.lang_order.specs.Bodies.{IsBodyBehind, BodyKeeps, IsFaultSo}
use Rattle.lang_tokens.specs.declared.faults.LineFault.{LineFault}
use Rattle.lang_tokens.specs.declared.faults.LineFault.TheVariants as faults
use Rattle.lang_lines.specs.declared.statements.Line.{Line}
use Rattle.lang_lines.specs.declared.statements.Line.TheVariants.{Version, Automaton, Vars, Obs, Loc, Init, Inv, Flow, Also, Trans, End}

-- the statement that a line is
abbrev pub says : Line → Statement
says (Version second) = statements.Version second
says (Automaton name) = statements.Automaton name
says (Vars names) = statements.Vars names.items
says (Obs bounds) = statements.Obs bounds.items
says (Loc name unsafe_loc) = statements.Loc name unsafe_loc
says (Init rows) = statements.Init rows.items
says (Inv rows) = statements.Inv rows.items
says (Flow boxes) = statements.Flow boxes.items
says (Also rows) = statements.Also rows.items
says (Trans t) = statements.Trans t.from t.to t.label t.guard t.acts
says End = statements.End

-- the line of a transition
abbrev pub HasLine : ℕ → Line → Type 0
HasLine line (Trans t) = t.line ≡ line
HasLine line s = ⊤

-- the words that lines begin with
abbrev pub begins_statement : Kind → Bool
begins_statement kinds.Lha = true
begins_statement kinds.Automaton = true
begins_statement kinds.Var = true
begins_statement kinds.Obs = true
begins_statement kinds.Loc = true
begins_statement kinds.Init = true
begins_statement kinds.Inv = true
begins_statement kinds.Flow = true
begins_statement kinds.Also = true
begins_statement kinds.Trans = true
begins_statement kinds.End = true
begins_statement k = false

-- behind this word these marks, up to the end of the line, say this, within all limits
abbrev pub IsRead : Bool → Kind → List Mark → Statement → Type 0
IsRead second word ms s =
    (inside : List Mark) × (ms ≡ inside ++ the kinds.EndLine ∷ []) × IsBodyBehind second word inside s × ((which : Which) → IsTrue (line_keeps which inside s))

-- the first fault of the tokens of this line behind this word, or want of memory, which may come anywhere
abbrev pub IsBodyFault : Bool → ℕ → Kind → List Placed → LineFault → Type 0
IsBodyFault second line word ts faults.Memory = ⊤
IsBodyFault second line word ts (faults.Syntax column) = IsFaultSo (IsBodyBehind second word) BodyKeeps ts (SyntaxAt line column)
IsBodyFault second line word ts (faults.Limit which) = IsFaultSo (IsBodyBehind second word) BodyKeeps ts (LimitAt line which)
