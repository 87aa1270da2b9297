-- The limits of a line are those of what it says.
use Rattle.std.proofs.Common.{◌≡◌, ℕ, Bool, true, false, ◌&&◌, List, [], ◌∷◌, ◌++◌, refl, sym, ap, ◌∙◌}
use Rattle.std.proofs.lemmas.List.{append-nil}
use Rattle.std.specs.Prelude.{nat_le}
use Rattle.std.specs.List.{list_all, flat_map}
use Rattle.lang_specs.specs.declared.Which.{Which}
use Rattle.lang_specs.specs.declared.Which.TheVariants.{Automata, Variables, Locations, Transitions, Rows, Terms, NameBytes, Digits}
use Rattle.lang_specs.specs.declared.Kind.{Kind}
use Rattle.lang_specs.specs.declared.Kind.TheVariants as kinds
use Rattle.lang_specs.specs.Marks.{Mark}
use Rattle.lang_specs.specs.Trees.{Term, RowTree, BoxTree, BoundTree, TransTree, Act, act_expressions}
use Rattle.lang_specs.specs.Limits.{row_count, has_at_most}
use Rattle.lang_specs.proofs.SplitLemmas.{apart}
use Rattle.lang_order.specs.Statements.{Statement, Vars, Obs, Init, Inv, Flow, Also, Trans}
use Rattle.lang_order.specs.LineLimits.{line_keeps}
use Rattle.lang_order.specs.Bodies.{IsBodyBehind}
use Rattle.lang_order.proofs.Things.{Spelled, Says}
use Rattle.lang_lists.specs.SixAtMost.{six_at_most}
use Rattle.lang_lists.specs.BoxMachine.{no_limits}
use Rattle.lang_rows.specs.RowMachine.{row_limits}
use Rattle.lang_transitions.specs.TransitionMachine.{IsTransition, transition_limits}

-- ---- names, bounds and boxes

pub names_alike : (which : Which) (names : List (List ℕ)) → line_keeps which [] (Vars names) ≡ six_at_most which names
names_alike Automata names = refl
names_alike Variables names = refl
names_alike Locations names = refl
names_alike Transitions names = refl
names_alike Rows names = refl
names_alike Terms names = refl
names_alike NameBytes names = refl
names_alike Digits names = refl

pub bounds_alike : (which : Which) (bounds : List BoundTree) → line_keeps which [] (Obs bounds) ≡ six_at_most which bounds
bounds_alike Automata bounds = refl
bounds_alike Variables bounds = refl
bounds_alike Locations bounds = refl
bounds_alike Transitions bounds = refl
bounds_alike Rows bounds = refl
bounds_alike Terms bounds = refl
bounds_alike NameBytes bounds = refl
bounds_alike Digits bounds = refl

pub boxes_alike : (which : Which) (boxes : List BoxTree) → line_keeps which [] (Flow boxes) ≡ no_limits which boxes
boxes_alike Automata boxes = refl
boxes_alike Variables boxes = refl
boxes_alike Locations boxes = refl
boxes_alike Transitions boxes = refl
boxes_alike Rows boxes = refl
boxes_alike Terms boxes = refl
boxes_alike NameBytes boxes = refl
boxes_alike Digits boxes = refl

-- ---- constraints

and_true : (b : Bool) → (b && true) ≡ b
and_true true = refl
and_true false = refl

and_assoc : (a b c : Bool) → (a && (b && c)) ≡ ((a && b) && c)
and_assoc true b c = refl
and_assoc false b c = refl

abbrev sides : List RowTree → List (List Term)
sides rows = flat_map (λ r. r.left ∷ r.right ∷ []) rows

abbrev few_sides : List RowTree → Bool
few_sides rows = list_all (λ r. has_at_most 14 r.left && has_at_most 14 r.right) rows

sides_few : (rows : List RowTree) → list_all (has_at_most 14) (sides rows) ≡ few_sides rows
sides_few [] = refl
sides_few (r ∷ rows) =
    ap (λ b. has_at_most 14 r.left && (has_at_most 14 r.right && b)) (sides_few rows) ∙ and_assoc (has_at_most 14 r.left) (has_at_most 14 r.right) (few_sides rows)

all_append : {A : Type 0} (p : A → Bool) (xs ys : List A) → list_all p (xs ++ ys) ≡ (list_all p xs && list_all p ys)
all_append p [] ys = refl
all_append p (x ∷ xs) ys = ap (λ b. p x && b) (all_append p xs ys) ∙ and_assoc (p x) (list_all p xs) (list_all p ys)

-- the sides of these constraints, and no other expressions
alone_few : (rows : List RowTree) → list_all (has_at_most 14) ((sides rows ++ []) ++ []) ≡ few_sides rows
alone_few rows = ap (list_all (has_at_most 14)) (append-nil (sides rows ++ []) ∙ append-nil (sides rows)) ∙ sides_few rows

pub starts_alike : (which : Which) (rows : List RowTree) → line_keeps which [] (Init rows) ≡ row_limits which rows
starts_alike Automata rows = refl
starts_alike Variables rows = refl
starts_alike Locations rows = refl
starts_alike Transitions rows = refl
starts_alike Rows rows = and_true (nat_le (row_count rows) 12)
starts_alike Terms rows = alone_few rows
starts_alike NameBytes rows = refl
starts_alike Digits rows = refl

pub invariants_alike : (which : Which) (rows : List RowTree) → line_keeps which [] (Inv rows) ≡ row_limits which rows
invariants_alike Automata rows = refl
invariants_alike Variables rows = refl
invariants_alike Locations rows = refl
invariants_alike Transitions rows = refl
invariants_alike Rows rows = and_true (nat_le (row_count rows) 12)
invariants_alike Terms rows = alone_few rows
invariants_alike NameBytes rows = refl
invariants_alike Digits rows = refl

pub slopes_alike : (which : Which) (rows : List RowTree) → line_keeps which [] (Also rows) ≡ row_limits which rows
slopes_alike Automata rows = refl
slopes_alike Variables rows = refl
slopes_alike Locations rows = refl
slopes_alike Transitions rows = refl
slopes_alike Rows rows = and_true (nat_le (row_count rows) 12)
slopes_alike Terms rows = alone_few rows
slopes_alike NameBytes rows = refl
slopes_alike Digits rows = refl

-- ---- transitions

abbrev pub transition_of : TransTree → Statement
transition_of t = Trans t.from t.to t.label t.guard t.acts

both_few : (rows : List RowTree) (acts : List Act) → list_all (has_at_most 14) ((sides rows ++ []) ++ flat_map act_expressions acts) ≡ (few_sides rows && list_all (has_at_most 14) (flat_map act_expressions acts))
both_few rows acts =
    ap (λ z. list_all (has_at_most 14) (z ++ flat_map act_expressions acts)) (append-nil (sides rows))
    ∙ all_append (has_at_most 14) (sides rows) (flat_map act_expressions acts)
    ∙ ap (λ b. b && list_all (has_at_most 14) (flat_map act_expressions acts)) (sides_few rows)

pub transitions_alike : (which : Which) (t : TransTree) → line_keeps which [] (transition_of t) ≡ transition_limits which t
transitions_alike Automata t = refl
transitions_alike Variables t = refl
transitions_alike Locations t = refl
transitions_alike Transitions t = refl
transitions_alike Rows t = and_true (nat_le (row_count t.guard) 12)
transitions_alike Terms t = both_few t.guard t.acts
transitions_alike NameBytes t = refl
transitions_alike Digits t = refl

is_trans : Kind → Bool
is_trans kinds.Trans = true
is_trans k = false

trans_out : (second : Bool) (body : List Mark) (s : Statement) → IsBodyBehind second kinds.Trans body s → Spelled (IsTransition second) transition_of body s
unfolding is_trans
trans_out second body (Trans from to label guard acts) h = record {
  thing = record { line = 0; from = from; to = to; label = label; guard = guard; acts = acts };
  says = refl;
  holds = h.1;
}
trans_out second body s h = apart (sym (ap is_trans h.0))

-- behind `trans` stands a transition
pub trans_says : (second : Bool) → Says second kinds.Trans (IsTransition second) transition_of
trans_says second = record { into = λ body x h. (refl, h); out = trans_out second }
