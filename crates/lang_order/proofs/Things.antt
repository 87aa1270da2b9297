-- What is wrong with what stands behind a word, where it says one kind of thing.
use Rattle.std.proofs.Common.{◌≡◌, inl, inr, Bool, true, false, List, [], ◌∷◌, ◌++◌, refl, sym, ap, subst}
use Rattle.std.specs.Prelude.{IsTrue}
use Rattle.lang_specs.specs.declared.Which.{Which}
use Rattle.lang_specs.specs.declared.Kind.{Kind}
use Rattle.lang_specs.specs.declared.Kind.TheVariants as kinds
use Rattle.lang_specs.specs.Tokens.{Placed}
use Rattle.lang_specs.specs.Marks.{Mark}
use Rattle.lang_specs.specs.FirstFault.{Fault, SyntaxAt, LimitAt}
use Rattle.lang_specs.specs.Expressions.{AreJoined, IsName, AreRows, IsBox, IsBound}
use Rattle.lang_specs.proofs.SplitLemmas.{apart}
use Rattle.lang_order.specs.Statements.{Statement, Automaton, Vars, Obs, Init, Inv, Flow, Also}
use Rattle.lang_order.specs.Beginnings.{IsViableLine, IsViableLineWithin}
use Rattle.lang_order.specs.FaultsByLines.{marks}
use Rattle.lang_order.specs.Bodies.{IsBodyBehind, BodyKeeps, KeepsAs, HasKeptSo, IsWrongSo, IsFaultSo}

-- the statement says a thing, which these marks spell
pub record Spelled {X : Type 0} (Is : List Mark → X → Type 0) (C : X → Statement) (body : List Mark) (s : Statement) : Type 0 where
  pub thing : X
  pub says : s ≡ C thing
  pub holds : Is body thing

-- behind the word stand things of this kind, and nothing else
pub record Says {X : Type 0} (second : Bool) (k : Kind) (Is : List Mark → X → Type 0) (C : X → Statement) : Type 0 where
  pub into : (body : List Mark) (x : X) → Is body x → IsBodyBehind second k body (C x)
  pub out : (body : List Mark) (s : Statement) → IsBodyBehind second k body s → Spelled Is C body s

module _ {X : Type 0} (second : Bool) (k : Kind) (Is : List Mark → X → Type 0) (C : X → Statement) (says : Says second k Is C) where
  viable_in : (ms : List Mark) → IsViableLine Is ms → IsViableLine (IsBodyBehind second k) ms
  viable_in ms (tail, x, (body, e, h)) = (tail, C x, (body, e, says.into body x h))

  viable_out : (ms : List Mark) → IsViableLine (IsBodyBehind second k) ms → IsViableLine Is ms
  viable_out ms (tail, s, (body, e, h)) = let o = says.out body s h in (tail, o.thing, (body, e, o.holds))

  within_in : (w : Which) (ms : List Mark) → IsViableLineWithin Is (KeepsAs C w) ms → IsViableLineWithin (IsBodyBehind second k) (BodyKeeps w) ms
  within_in w ms (tail, x, (body, e, (h, g))) = (tail, C x, (body, e, (says.into body x h, g)))

  within_out : (w : Which) (ms : List Mark) → IsViableLineWithin (IsBodyBehind second k) (BodyKeeps w) ms → IsViableLineWithin Is (KeepsAs C w) ms
  within_out w ms (tail, s, (body, e, (h, g))) =
      let o = says.out body s h in (tail, o.thing, (body, e, (o.holds, subst (BodyKeeps w body) o.says g)))

  kept_in : (w : Which) (ms : List Mark) → HasKeptSo Is (KeepsAs C w) ms → HasKeptSo (IsBodyBehind second k) (BodyKeeps w) ms
  kept_in w ms (inl h) = inl (within_in w ms h)
  kept_in w ms (inr j) = inr (record { front = j.front; joint = j.joint; parts = j.parts; joins = j.joins; before = within_in w j.front j.before })

  kept_out : (w : Which) (ms : List Mark) → HasKeptSo (IsBodyBehind second k) (BodyKeeps w) ms → HasKeptSo Is (KeepsAs C w) ms
  kept_out w ms (inl h) = inl (within_out w ms h)
  kept_out w ms (inr j) = inr (record { front = j.front; joint = j.joint; parts = j.parts; joins = j.joins; before = within_out w j.front j.before })

  wrong_in : (ms : List Mark) (t : Placed) (fault : Fault) → IsWrongSo Is (KeepsAs C) ms t fault → IsWrongSo (IsBodyBehind second k) BodyKeeps ms t fault
  wrong_in ms t (SyntaxAt line column) h = (λ i. h.0 (viable_out ms i), h.1, h.2)
  wrong_in ms t (LimitAt line which) h =
      (viable_in ms h.0, λ i. h.1 (kept_out which ms i), λ o none. h.2 o (λ i. none (kept_in o ms i)), h.3)

  pub fault_in : (ts : List Placed) (fault : Fault) → IsFaultSo Is (KeepsAs C) ts fault → IsFaultSo (IsBodyBehind second k) BodyKeeps ts fault
  fault_in ts fault h = record {
    front = h.front;
    token = h.token;
    rest = h.rest;
    parts = h.parts;
    viable = viable_in (marks h.front) h.viable;
    kept = λ some others w e. kept_in w some (h.kept some others w e);
    wrong = wrong_in (marks (h.front ++ h.token ∷ [])) h.token fault h.wrong;
  }

-- ---- the words

is_automaton : Kind → Bool
is_automaton kinds.Automaton = true
is_automaton k = false

automaton_out : (second : Bool) (body : List Mark) (s : Statement) → IsBodyBehind second kinds.Automaton body s → Spelled IsName Automaton body s
unfolding is_automaton
automaton_out second body (Automaton name) h = record { thing = name; says = refl; holds = h.1 }
automaton_out second body s h = apart (sym (ap is_automaton h.0))

pub automaton_says : (second : Bool) → Says second kinds.Automaton IsName Automaton
automaton_says second = record { into = λ body x h. (refl, h); out = automaton_out second }

is_var : Kind → Bool
is_var kinds.Var = true
is_var k = false

var_out : (second : Bool) (body : List Mark) (s : Statement) → IsBodyBehind second kinds.Var body s → Spelled (AreJoined IsName) Vars body s
unfolding is_var
var_out second body (Vars names) h = record { thing = names; says = refl; holds = h.1 }
var_out second body s h = apart (sym (ap is_var h.0))

pub var_says : (second : Bool) → Says second kinds.Var (AreJoined IsName) Vars
var_says second = record { into = λ body x h. (refl, h); out = var_out second }

is_obs : Kind → Bool
is_obs kinds.Obs = true
is_obs k = false

obs_out : (second : Bool) (body : List Mark) (s : Statement) → IsBodyBehind second kinds.Obs body s → Spelled (AreJoined IsBound) Obs body s
unfolding is_obs
obs_out second body (Obs bounds) h = record { thing = bounds; says = refl; holds = h.1.1 }
obs_out second body s h = apart (sym (ap is_obs h.0))

pub obs_says : (second : Bool) → IsTrue second → Says second kinds.Obs (AreJoined IsBound) Obs
obs_says second so = record { into = λ body x h. (refl, (so, h)); out = obs_out second }

is_init : Kind → Bool
is_init kinds.Init = true
is_init k = false

init_out : (second : Bool) (body : List Mark) (s : Statement) → IsBodyBehind second kinds.Init body s → Spelled (AreRows second) Init body s
unfolding is_init
init_out second body (Init rows) h = record { thing = rows; says = refl; holds = h.1 }
init_out second body s h = apart (sym (ap is_init h.0))

pub init_says : (second : Bool) → Says second kinds.Init (AreRows second) Init
init_says second = record { into = λ body x h. (refl, h); out = init_out second }

is_inv : Kind → Bool
is_inv kinds.Inv = true
is_inv k = false

inv_out : (second : Bool) (body : List Mark) (s : Statement) → IsBodyBehind second kinds.Inv body s → Spelled (AreRows second) Inv body s
unfolding is_inv
inv_out second body (Inv rows) h = record { thing = rows; says = refl; holds = h.1 }
inv_out second body s h = apart (sym (ap is_inv h.0))

pub inv_says : (second : Bool) → Says second kinds.Inv (AreRows second) Inv
inv_says second = record { into = λ body x h. (refl, h); out = inv_out second }

is_flow : Kind → Bool
is_flow kinds.Flow = true
is_flow k = false

flow_out : (second : Bool) (body : List Mark) (s : Statement) → IsBodyBehind second kinds.Flow body s → Spelled (AreJoined IsBox) Flow body s
unfolding is_flow
flow_out second body (Flow boxes) h = record { thing = boxes; says = refl; holds = h.1 }
flow_out second body s h = apart (sym (ap is_flow h.0))

pub flow_says : (second : Bool) → Says second kinds.Flow (AreJoined IsBox) Flow
flow_says second = record { into = λ body x h. (refl, h); out = flow_out second }

is_also : Kind → Bool
is_also kinds.Also = true
is_also k = false

also_out : (second : Bool) (body : List Mark) (s : Statement) → IsBodyBehind second kinds.Also body s → Spelled (AreRows false) Also body s
unfolding is_also
also_out second body (Also rows) h = record { thing = rows; says = refl; holds = h.1 }
also_out second body s h = apart (sym (ap is_also h.0))

pub also_says : (second : Bool) → Says second kinds.Also (AreRows false) Also
also_says second = record { into = λ body x h. (refl, h); out = also_out second }
