-- The first faults of some texts.
use Rattle.std.proofs.Common.{◌≡◌, inl, inr, ℕ, ◌≤◌, Bool, true, false, List, [], ◌∷◌, ◌++◌, codes, None, refl, sym, subst, ap, ◌∙◌, append_assoc, arith}
use Rattle.poly_specs.specs.Elimination.{gcd}
use Rattle.lang_specs.specs.declared.Kind.TheVariants as kinds
use Rattle.lang_specs.specs.declared.Which.{Which}
use Rattle.lang_specs.specs.declared.Which.TheVariants as which
use Rattle.lang_specs.specs.Tokens.{cut}
use Rattle.lang_specs.specs.Lines.{lines_from}
use Rattle.lang_specs.specs.Marks.{Mark, the, a_name, a_number, Lined, statement}
use Rattle.lang_specs.specs.Trees.{Tree}
use Rattle.lang_specs.specs.Expressions.{IsValue}
use Rattle.lang_specs.specs.Grammar.{IsTree, Spell, version}
use Rattle.lang_specs.specs.Limits.{Keeps, rank}
use Rattle.lang_specs.specs.FirstFault.{IsViable, IsViableWithin, is_joint, EndsWithJoint, HasKept, HasKeptAll, SyntaxAt, LimitAt, IsFirstFault}
use Rattle.lang_specs.specs.Examples.{x, whole, box, tank, long_name, long_name_text}
use Rattle.lang_specs.proofs.ExampleSpelling.{all_tokens, spelled, kept, box_tokens, slope_is}

-- ---- beginnings of a text that is spelled within all limits

pub within : (front rest : List Lined) (trees : List Tree) (w : Which) → Spell (front ++ rest) trees → Keeps w (front ++ rest) trees → IsViableWithin w front
within front rest trees w s k = (rest, trees, s, k)

pub kept_all : (front rest : List Lined) (trees : List Tree) → Spell (front ++ rest) trees → ((w : Which) → Keeps w (front ++ rest) trees) → HasKeptAll front
kept_all front rest trees s k = λ part more w e.
    let parts : front ++ rest ≡ part ++ (more ++ rest) = ap (λ z. z ++ rest) e ∙ append_assoc part more rest in
    inl (more ++ rest, trees, subst (λ ls. Spell ls trees) parts s, subst (λ ls. Keeps w ls trees) parts (k w))

-- what stands first, and after the first
abbrev first_mark : List Lined → Mark
first_mark [] = the kinds.Other
first_mark (l ∷ ls) = l.mark

abbrev after_first : List Lined → List Lined
after_first [] = []
after_first (l ∷ ls) = ls

abbrev last_mark : List Lined → Mark
last_mark [] = the kinds.Other
last_mark (l ∷ []) = l.mark
last_mark (l ∷ m ∷ ls) = last_mark (m ∷ ls)

last_is : (ls : List Lined) (l : Lined) → last_mark (ls ++ l ∷ []) ≡ l.mark
last_is [] l = refl
last_is (a ∷ []) l = refl
last_is (a ∷ b ∷ ls) l = last_is (b ∷ ls) l

-- tokens that end with no joint have kept to a limit only by going on within it
pub no_joint : (w : Which) (ls : List Lined) → is_joint (last_mark ls).kind ≡ false → EndsWithJoint w ls → ⊥
no_joint w ls none h =
    let last : last_mark ls ≡ h.joint.mark = ap last_mark h.parts ∙ last_is h.front h.joint in
    let joins : is_joint (last_mark ls).kind ≡ true = ap (λ m. is_joint m.kind) last ∙ h.joins in
    let both : false ≡ true = sym none ∙ joins in
    absurd (let b : ⊥ = cc in b)

-- ---- no text at all

no_text : (line : ℕ) → IsViable (record { line = line; mark = the kinds.EndText } ∷ []) → ⊥
no_text line (more, trees, (second, first, last, rest, e, some, order)) =
    let kind : kinds.EndText ≡ kinds.Lha = ap (λ ls. (first_mark ls).kind) e in absurd (let b : ⊥ = cc in b)

pub empty_text : IsFirstFault [] (SyntaxAt 1 1)
unfolding lines_from
empty_text = record {
  front = [];
  token = record { line = 1; column = 1; kind = kinds.EndText; text = [] };
  rest = [];
  parts = refl;
  viable = (all_tokens, tank ∷ [], spelled);
  kept = kept_all [] all_tokens (tank ∷ []) spelled kept;
  wrong = (no_text 1, refl, refl);
}

-- ---- a version that is spelled otherwise

version_is : (second : Bool) → version second ≡ codes "01" → ⊥
version_is true e = let b : ⊥ = cc in b
version_is false e = let b : ⊥ = cc in b

no_version : IsViable (record { line = 1; mark = the kinds.Lha } ∷ record { line = 1; mark = a_number (codes "01") } ∷ []) → ⊥
no_version (more, trees, (second, first, last, rest, e, some, order)) = version_is second (ap (λ ls. (first_mark (after_first ls)).text) (sym e))

pub odd_version : IsFirstFault (codes "lha 01") (SyntaxAt 1 5)
unfolding cut lines_from
odd_version = record {
  front = record { line = 1; column = 1; kind = kinds.Lha; text = codes "lha" } ∷ [];
  token = record { line = 1; column = 5; kind = kinds.Number; text = codes "01" };
  rest =
      record { line = 1; column = 7; kind = kinds.EndLine; text = [] } ∷ record { line = 2; column = 1; kind = kinds.EndText; text = [] } ∷ [];
  parts = refl;
  viable = (after_first all_tokens, tank ∷ [], spelled);
  kept = kept_all (record { line = 1; mark = the kinds.Lha } ∷ []) (after_first all_tokens) (tank ∷ []) spelled kept;
  wrong = (no_version, refl, refl);
}

-- ---- a name that is too long

-- the smallest model, of this name
abbrev named : List ℕ → Tree
named name = record {
  line = 2;
  name = name;
  vars = x ∷ [];
  var_line = 3;
  obs = None;
  locs = record {
    line = 4;
    name = x;
    is_unsafe = false;
    init = None;
    inv = None;
    flow = record { line = 5; boxes = box x (whole 0) (whole 0) ∷ [] };
    also = None;
  } ∷ [];
  trans = [];
}

abbrev before_name : List Lined
before_name = statement 1 (the kinds.Lha ∷ a_number (codes "1") ∷ []) ++ record { line = 2; mark = the kinds.Automaton } ∷ []

abbrev pub loc_lines : List Lined
loc_lines = statement 4 (the kinds.Loc ∷ a_name x ∷ []) ++ statement 5 (the kinds.Flow ∷ box_tokens x false (codes "0") (codes "0"))

abbrev tree_lines : List ℕ → List Lined
tree_lines name =
    statement 2 (the kinds.Automaton ∷ a_name name ∷ []) ++ statement 3 (the kinds.Var ∷ a_name x ∷ []) ++ loc_lines
    ++ statement 6 (the kinds.End ∷ [])

abbrev behind_name : List Lined
behind_name =
    record { line = 2; mark = the kinds.EndLine } ∷ statement 3 (the kinds.Var ∷ a_name x ∷ []) ++ loc_lines
    ++ statement 6 (the kinds.End ∷ []) ++ record { line = 7; mark = the kinds.EndText } ∷ []

abbrev with_name : List ℕ → List Lined
with_name name = before_name ++ record { line = 2; mark = a_name name } ∷ behind_name

pub flow_is : IsValue (codes "0") (whole 0)
unfolding gcd
flow_is = inl refl

named_is : (name : List ℕ) → IsTree false (tree_lines name) (named name)
named_is name = (
  statement 3 (the kinds.Var ∷ a_name x ∷ []),
  [],
  loc_lines,
  [],
  6,
  refl,
  (a_name x ∷ [], refl, refl),
  refl,
  tt,
  (
    loc_lines,
    [],
    refl,
    (
      [],
      [],
      statement 5 (the kinds.Flow ∷ box_tokens x false (codes "0") (codes "0")),
      [],
      refl,
      refl,
      refl,
      (box_tokens x false (codes "0") (codes "0"), refl, slope_is x false (codes "0") (codes "0") (whole 0) (whole 0) flow_is flow_is),
      refl,
    ),
    refl,
  ),
  refl,
)

with_name_is : (name : List ℕ) → Spell (with_name name) (named name ∷ [])
with_name_is name = (false, 1, 7, tree_lines name, refl, tt, (tree_lines name, [], refl, named_is name, refl))

short_name_keeps : (w : Which) → Keeps w (with_name x) (named x ∷ [])
short_name_keeps which.Automata = refl
short_name_keeps which.Variables = refl
short_name_keeps which.Locations = refl
short_name_keeps which.Transitions = refl
short_name_keeps which.Rows = refl
short_name_keeps which.Terms = refl
short_name_keeps which.NameBytes = refl
short_name_keeps which.Digits = refl

abbrev up_to_name : List Lined
up_to_name = before_name ++ record { line = 2; mark = a_name long_name } ∷ []

name_passes : HasKept which.NameBytes up_to_name → ⊥
name_passes (inl (more, trees, s, k)) = let e : false ≡ true = k in absurd (let b : ⊥ = cc in b)
name_passes (inr h) = no_joint which.NameBytes up_to_name refl h

-- nothing else is passed that is told before
told_first : (w : Which) → (HasKept w up_to_name → ⊥) → rank which.NameBytes ≤ rank w
told_first which.Automata h = absurd (h (inl (within up_to_name behind_name (named long_name ∷ []) which.Automata (with_name_is long_name) refl)))
told_first which.Variables h = absurd (h (inl (within up_to_name behind_name (named long_name ∷ []) which.Variables (with_name_is long_name) refl)))
told_first which.Locations h = absurd (h (inl (within up_to_name behind_name (named long_name ∷ []) which.Locations (with_name_is long_name) refl)))
told_first which.Transitions h = absurd (h (inl (within up_to_name behind_name (named long_name ∷ []) which.Transitions (with_name_is long_name) refl)))
told_first which.Rows h = absurd (h (inl (within up_to_name behind_name (named long_name ∷ []) which.Rows (with_name_is long_name) refl)))
told_first which.Terms h = absurd (h (inl (within up_to_name behind_name (named long_name ∷ []) which.Terms (with_name_is long_name) refl)))
told_first which.NameBytes h = omega arith
told_first which.Digits h = omega arith

pub too_long_a_name : IsFirstFault long_name_text (LimitAt 2 which.NameBytes)
unfolding cut lines_from
too_long_a_name = record {
  front =
      record { line = 1; column = 1; kind = kinds.Lha; text = codes "lha" } ∷ record { line = 1; column = 5; kind = kinds.Number; text = codes "1" }
      ∷ record { line = 1; column = 6; kind = kinds.EndLine; text = [] }
      ∷ record { line = 2; column = 1; kind = kinds.Automaton; text = codes "automaton" } ∷ [];
  token = record { line = 2; column = 11; kind = kinds.Name; text = long_name };
  rest =
      record { line = 2; column = 44; kind = kinds.EndLine; text = [] } ∷ record { line = 3; column = 1; kind = kinds.EndText; text = [] } ∷ [];
  parts = refl;
  viable = (record { line = 2; mark = a_name x } ∷ behind_name, named x ∷ [], with_name_is x);
  kept = kept_all before_name (record { line = 2; mark = a_name x } ∷ behind_name) (named x ∷ []) (with_name_is x) short_name_keeps;
  wrong = ((behind_name, named long_name ∷ [], with_name_is long_name), name_passes, told_first, refl);
}
