-- The first faults of some texts, by their lines.
use Rattle.std.proofs.Common.{ℕ, Bool, true, false, List, [], ◌∷◌, ◌++◌, codes, refl, sym, ap}
use Rattle.std.specs.Prelude.{IsTrue}
use Rattle.lang_specs.specs.declared.Which.{Which}
use Rattle.lang_specs.specs.declared.Which.TheVariants.{Automata}
use Rattle.lang_specs.specs.declared.Kind.{Kind}
use Rattle.lang_specs.specs.declared.Kind.TheVariants as kinds
use Rattle.lang_specs.specs.Tokens.{Placed, cut}
use Rattle.lang_specs.specs.Lines.{lines_from}
use Rattle.lang_specs.specs.Marks.{the, a_name, a_number, Lined, lined, statement}
use Rattle.lang_specs.specs.FirstFault.{SyntaxAt, IsFirstFault}
use Rattle.lang_specs.specs.Grammar.{version}
use Rattle.lang_specs.proofs.SplitLemmas.{apart}
use Rattle.lang_order.specs.declared.Place.{Place}
use Rattle.lang_order.specs.declared.Place.TheVariants as places
use Rattle.lang_order.specs.Statements.{Statement, Version, Automaton, Vars, Loc, Numbered}
use Rattle.lang_order.specs.LineLimits.{line_keeps, none_yet, count, counts_from, are_few}
use Rattle.lang_order.specs.FaultsByLines.{IsReadLine, AreReadLines}
use Rattle.lang_order.proofs.WordFaults.{fault_of_order, fault_of_version}

abbrev token : ℕ → ℕ → Kind → List ℕ → Placed
token line column k text = record { line = line; column = column; kind = k; text = text }

abbrev end_at : ℕ → ℕ → Placed
end_at line column = token line column kinds.EndLine []

-- ---- three lines, and a fourth

abbrev three : List Placed
three =
    token 1 1 kinds.Lha (codes "lha") ∷ token 1 5 kinds.Number (codes "1") ∷ end_at 1 6 ∷ token 2 1 kinds.Automaton (codes "automaton")
    ∷ token 2 11 kinds.Name (codes "A") ∷ end_at 2 12 ∷ token 3 1 kinds.Var (codes "var") ∷ token 3 5 kinds.Name (codes "x") ∷ end_at 3 6 ∷ []

abbrev four : List Placed
four = three ++ token 4 1 kinds.Loc (codes "loc") ∷ token 4 5 kinds.Name (codes "a") ∷ end_at 4 6 ∷ []

abbrev said : ℕ → Statement → Numbered
said line s = record { line = line; says = s }

abbrev three_say : List Numbered
three_say = said 1 (Version false) ∷ said 2 (Automaton (codes "A")) ∷ said 3 (Vars (codes "x" ∷ [])) ∷ []

abbrev four_say : List Numbered
four_say = three_say ++ said 4 (Loc (codes "a") false) ∷ []

version_keeps : (w : Which) → IsTrue (line_keeps w (the kinds.Lha ∷ a_number (version false) ∷ []) (Version false))
version_keeps Automata = refl
version_keeps w = refl

name_keeps : (w : Which) → IsTrue (line_keeps w (the kinds.Automaton ∷ a_name (codes "A") ∷ []) (Automaton (codes "A")))
name_keeps Automata = refl
name_keeps w = refl

var_keeps : (w : Which) → IsTrue (line_keeps w (the kinds.Var ∷ a_name (codes "x") ∷ []) (Vars (codes "x" ∷ [])))
var_keeps Automata = refl
var_keeps w = refl

loc_keeps : (w : Which) → IsTrue (line_keeps w (the kinds.Loc ∷ a_name (codes "a") ∷ []) (Loc (codes "a") false))
loc_keeps Automata = refl
loc_keeps w = refl

few_names : (w : Which) → IsTrue (are_few w (count (counts_from none_yet (said 1 (Version false) ∷ [])) kinds.Automaton))
few_names Automata = refl
few_names w = refl

few_vars : (w : Which) → IsTrue (are_few w (count (counts_from none_yet (said 1 (Version false) ∷ said 2 (Automaton (codes "A")) ∷ [])) kinds.Var))
few_vars Automata = refl
few_vars w = refl

few_locs : (w : Which) → IsTrue (are_few w (count (counts_from none_yet three_say) kinds.Loc))
few_locs Automata = refl
few_locs w = refl

few_lha : (w : Which) → IsTrue (are_few w (count none_yet kinds.Lha))
few_lha Automata = refl
few_lha w = refl

abbrev line_one : List Lined
line_one = statement 1 (the kinds.Lha ∷ a_number (version false) ∷ [])

abbrev line_two : List Lined
line_two = statement 2 (the kinds.Automaton ∷ a_name (codes "A") ∷ [])

abbrev line_three : List Lined
line_three = statement 3 (the kinds.Var ∷ a_name (codes "x") ∷ [])

abbrev line_four : List Lined
line_four = statement 4 (the kinds.Loc ∷ a_name (codes "a") ∷ [])

one_is : IsReadLine false line_one (said 1 (Version false))
one_is = (the kinds.Lha ∷ a_number (version false) ∷ [], refl, (a_number (version false) ∷ [], refl, refl), version_keeps)

two_is : IsReadLine false line_two (said 2 (Automaton (codes "A")))
two_is = (the kinds.Automaton ∷ a_name (codes "A") ∷ [], refl, (a_name (codes "A") ∷ [], refl, refl), name_keeps)

three_is : IsReadLine false line_three (said 3 (Vars (codes "x" ∷ [])))
three_is = (the kinds.Var ∷ a_name (codes "x") ∷ [], refl, (a_name (codes "x") ∷ [], refl, refl), var_keeps)

four_is : IsReadLine false line_four (said 4 (Loc (codes "a") false))
four_is = (the kinds.Loc ∷ a_name (codes "a") ∷ [], refl, (a_name (codes "a") ∷ [], refl, refl), loc_keeps)

three_read : AreReadLines (lined three) three_say places.Var
three_read = record {
  say = (line_one, line_two ++ line_three, refl, one_is, (line_two, line_three, refl, two_is, (line_three, [], refl, three_is, refl)));
  order = (places.Lha, refl, (places.Automaton, refl, (places.Var, refl, refl)));
  few = λ w. (few_lha w, (few_names w, (few_vars w, tt)));
}

four_read : AreReadLines (lined four) four_say places.Loc
four_read = record {
  say = (
    line_one,
    line_two ++ line_three ++ line_four,
    refl,
    one_is,
    (line_two, line_three ++ line_four, refl, two_is, (line_three, line_four, refl, three_is, (line_four, [], refl, four_is, refl))),
  );
  order = (places.Lha, refl, (places.Automaton, refl, (places.Var, refl, (places.Loc, refl, refl))));
  few = λ w. (few_lha w, (few_names w, (few_vars w, (few_locs w, tt))));
}

-- ---- a fourth or fifth line that is none

is_end : Place → Bool
is_end places.End = true
is_end p = false

abbrev early_also : List ℕ
early_also = codes "lha 1\nautomaton A\nvar x\nloc a\nalso true"

pub also_before_flow : IsFirstFault early_also (SyntaxAt 5 1)
unfolding cut lines_from is_end
also_before_flow =
    fault_of_order early_also four_say places.Loc (token 5 1 kinds.Also (codes "also")) (token 5 6 kinds.True (codes "true") ∷ end_at 5 10 ∷ []) (record {
      whole = four;
      rest = token 6 1 kinds.EndText [] ∷ [];
      parts = refl;
      read = four_read;
      stand = (refl, (refl, tt));
      one = (refl, (refl, tt));
    }) refl (λ e. apart (sym (ap is_end e.0)))

abbrev early_end : List ℕ
early_end = codes "lha 1\nautomaton A\nvar x"

pub end_behind_var : IsFirstFault early_end (SyntaxAt 4 1)
unfolding cut lines_from is_end
end_behind_var =
    fault_of_order early_end three_say places.Var (token 4 1 kinds.EndText []) [] (record {
      whole = three;
      rest = [];
      parts = refl;
      read = three_read;
      stand = tt;
      one = tt;
    }) refl (λ e. apart (sym (ap is_end e.0)))

abbrev early_obs : List ℕ
early_obs = codes "lha 1\nautomaton A\nvar x\nobs"

pub obs_in_first : IsFirstFault early_obs (SyntaxAt 4 1)
unfolding cut lines_from
obs_in_first =
    fault_of_version early_obs three_say places.Var (token 4 1 kinds.Obs (codes "obs")) (end_at 4 4 ∷ []) (record {
      whole = three;
      rest = token 5 1 kinds.EndText [] ∷ [];
      parts = refl;
      read = three_read;
      stand = (refl, tt);
      one = (refl, tt);
    }) refl refl
