-- The canonical lines of what lines spell: transitions, automata and texts.
use Rattle.std.proofs.Common.{◌≡◌, ℕ, ◌+◌, pos, Bool, true, false, List, [], ◌∷◌, ◌++◌, length, map, Option, Some, None, refl, sym, ap, ◌∙◌, subst, append_assoc, append-nil, codes}
use Rattle.std.specs.Bool.{IsTrue}
use Rattle.std.specs.List.{flat_map, list_any}
use Rattle.std.specs.Fmt.{digits}
use Rattle.poly_specs.specs.Elimination.{gcd}
use Rattle.number_specs.proofs.LiteralLemmas.{literals_are}
use Rattle.lang_specs.specs.declared.Kind.TheVariants as kinds
use Rattle.lang_specs.specs.Marks.{Mark, the, a_name, a_number, Lined, statement}
use Rattle.lang_specs.specs.Trees.{RowTree, BoundsTree, LocTree, TransTree, Tree, rows_of, row_lists}
use Rattle.lang_specs.specs.Expressions.{IsSome}
use Rattle.lang_specs.specs.Grammar.{AreInOrder, IsLoc, IsTrans, IsObs, IsTree, version, Spell}
use Rattle.lang_specs.specs.Canonical.{joined, bound_tokens, guard_tokens, acts_tokens, obs_line, loc_lines, trans_line, tree_lines, has_obs, has_strict, needs_second, canonical_lines}
use Rattle.lang_specs.specs.SameTrees.{bounds_alone, loc_alone, trans_alone, tree_alone}
use Rattle.lang_specs.proofs.EachLemmas.{Each, each_append, each_front, each_rest, each_of_map, each_of_flat}
use Rattle.lang_specs.proofs.CutLemmas.{writable_append}
use Rattle.lang_specs.proofs.FrontLemmas.{IsNumberText}
use Rattle.lang_specs.proofs.TextCuts.{IsLine, numbered}
use Rattle.lang_specs.proofs.SoundLemmas.{IsSound}
use Rattle.lang_specs.proofs.PrintedItems.{IsLet}
use Rattle.lang_specs.proofs.PrintedLists.{name_tokens, names_printed, bounds_printed, acts_printed, guard_printed}
use Rattle.lang_specs.proofs.PrintedLines.{AreSoundLines, lines_front, lines_rest, sound_statement, numbered_append, Reprints, IsReprinted, AreLet, each_any, or_left, or_right, lists_let, loc_printed}

-- ---- things in order

module _ {X : Type 0} (Is To : List Lined → X → Type 0) (lines : X → List (List Mark)) (alone : X → X) (P : X → Type 0)
    (each : (ls : List Lined) (x : X) → P x → Is ls x → AreSoundLines ls → IsReprinted To lines alone x) where
  in_order_from : (x : X) (xs : List X) → IsReprinted To lines alone x → IsReprinted (AreInOrder To) (flat_map lines) (map alone) xs →
      (line : ℕ) → Reprints (AreInOrder To) (flat_map lines (x ∷ xs)) (map alone) (x ∷ xs) line
  in_order_from x xs item others line =
      let n : ℕ = line + length (lines x) in
      let a = item.from line in let b = others.from n in record {
        other = a.other ∷ b.other;
        is = (numbered line (lines x), numbered n (flat_map lines xs), numbered_append line (lines x) (flat_map lines xs), a.is, b.is);
        same = let p = a.same in let q = b.same in cc;
      }

  pub in_order_printed : (ls : List Lined) (xs : List X) → Each P xs → AreInOrder Is ls xs → AreSoundLines ls →
      IsReprinted (AreInOrder To) (flat_map lines) (map alone) xs
  in_order_printed ls [] p h sound = record { from = λ line. record { other = []; is = refl; same = refl }; good = tt }
  in_order_printed ls (x ∷ xs) p (front, rest, e, h, k) sound =
      let parts = subst AreSoundLines e sound in
      let item = each front x p.0 h (lines_front front rest parts) in
      let others = in_order_printed rest xs p.1 k (lines_rest front rest parts) in
      record { from = in_order_from x xs item others; good = each_append IsLine (lines x) (flat_map lines xs) item.good others.good }

pub others_some : {X : Type 0} (alone : X → X) (xs ys : List X) → map alone xs ≡ map alone ys → IsSome xs → IsSome ys
others_some alone [] ys e h = absurd h
others_some alone (x ∷ xs) [] e h = let b : ⊥ = cc in b
others_some alone (x ∷ xs) (y ∷ ys) e h = tt

-- ---- transitions

abbrev trans_marks : TransTree → List Mark
trans_marks t = the kinds.Trans ∷ a_name t.from ∷ the kinds.Arrow ∷ a_name t.to ∷ the kinds.As ∷ a_name t.label ∷ []

abbrev pub trans_lines : TransTree → List (List Mark)
trans_lines t = trans_line t ∷ []

trans_printed : (strict other : Bool) (ls : List Lined) (t : TransTree) → Each (IsLet strict other) t.guard → IsTrans strict ls t → AreSoundLines ls →
    IsReprinted (IsTrans other) trans_lines trans_alone t
trans_printed strict other ls t lets (guard, acts, e, h, k) sound =
    let parts = sound_statement t.line (trans_marks t ++ guard ++ acts) (subst AreSoundLines e sound) in
    let front = each_front (λ (m : Mark). IsSound m.kind m.text) (trans_marks t ++ guard) acts parts in
    let g = guard_printed strict other guard t.guard lets h (each_rest (λ (m : Mark). IsSound m.kind m.text) (trans_marks t) guard front) in
    let a = acts_printed acts t.acts k (each_rest (λ (m : Mark). IsSound m.kind m.text) (trans_marks t ++ guard) acts parts) in record {
      from = λ line. record {
        other = record { line = line; from = t.from; to = t.to; label = t.label; guard = t.guard; acts = t.acts };
        is = (guard_tokens t.guard, acts_tokens t.acts, append-nil (statement line (trans_line t)), g.0, a.0);
        same = refl;
      };
      good = (
        writable_append (trans_marks t ++ guard_tokens t.guard) (acts_tokens t.acts)
            (writable_append (trans_marks t) (guard_tokens t.guard)
            (refl, tt, (front.1.0, tt, (refl, tt, (front.1.1.1.0, tt, (refl, tt, (front.1.1.1.1.1.0, tt, tt)))))) g.1) a.1,
        tt,
      );
    }

-- ---- an automaton

obs_printed : (second other : Bool) (ls : List Lined) (o : Option BoundsTree) → (has_obs o ≡ true → IsTrue other) → IsObs second ls o → AreSoundLines ls →
    IsReprinted (IsObs other) obs_line bounds_alone o
obs_printed second other ls None f h sound = record { from = λ line. record { other = None; is = refl; same = refl }; good = tt }
obs_printed second other ls (Some o) f (allowed, h) sound =
    let ms : List Mark = h.0 in
    let parts = sound_statement o.line (the kinds.Obs ∷ ms) (subst AreSoundLines h.1 sound) in
    let bounds = bounds_printed ms o.bounds h.2 parts.1 in record {
      from = λ line. record {
        other = Some (record { line = line; bounds = o.bounds });
        is = (f refl, (joined bound_tokens o.bounds, append-nil (statement line (the kinds.Obs ∷ joined bound_tokens o.bounds)), bounds.0));
        same = refl;
      };
      good = ((refl, tt, bounds.1), tt);
    }

-- what a version lets stand in the next is let stand in an automaton, if it stands there
abbrev pub NeedIsMet : Bool → Tree → Type 0
NeedIsMet other t = needs_second t ≡ true → IsTrue other

abbrev name_marks : Tree → List Mark
name_marks t = the kinds.Automaton ∷ a_name t.name ∷ []

abbrev var_marks : Tree → List Mark
var_marks t = the kinds.Var ∷ joined name_tokens t.vars

abbrev end_marks : List Mark
end_marks = the kinds.End ∷ []

-- the lines of an automaton, one after the other
tree_numbered : (line : ℕ) (a v e : List Mark) (o l t : List (List Mark)) →
    numbered line (a ∷ v ∷ o ++ l ++ t ++ e ∷ [])
    ≡ statement line a ++ statement (line + 1) v ++ numbered (line + 1 + 1) o ++ numbered (line + length (a ∷ v ∷ o)) l
    ++ numbered (line + length (a ∷ v ∷ o ++ l)) t ++ statement (line + length (a ∷ v ∷ o ++ l ++ t)) e
tree_numbered line a v e o l t =
    let n : ℕ = line + length (a ∷ v ∷ o ++ l ++ t) in
    let front : List Lined = numbered line (a ∷ v ∷ o ++ l ++ t) in
    numbered_append line (a ∷ v ∷ o ++ l ++ t) (e ∷ [])
    ∙ ap (λ z. front ++ z) (append-nil (statement n e))
    ∙ ap (λ z. z ++ statement n e) (numbered_append line (a ∷ v ∷ o ++ l) t)
    ∙ ap (λ z. z ++ numbered (line + length (a ∷ v ∷ o ++ l)) t ++ statement n e) (numbered_append line (a ∷ v ∷ o) l)
    ∙ ap (λ z. z ++ numbered (line + length (a ∷ v ∷ o)) l ++ numbered (line + length (a ∷ v ∷ o ++ l)) t ++ statement n e)
    (sym (append_assoc (statement line a) (statement (line + 1) v) (numbered (line + 1 + 1) o)))

abbrev LocRows : LocTree → List (List RowTree)
LocRows l = rows_of l.init ++ rows_of l.inv ++ rows_of l.also

pub tree_printed : (second other : Bool) (ls : List Lined) (t : Tree) → NeedIsMet other t → IsTree second ls t → AreSoundLines ls →
    IsReprinted (IsTree other) tree_lines tree_alone t
tree_printed second other ls t need (vars, obs, locs, trans, end_line, e, hv, ho, hs, hl, ht) sound =
    let Lets : List RowTree → Type 0 = λ rows. Each (IsLet second other) rows in
    let lets : AreLet second other (flat_map LocRows t.locs ++ map (λ e. e.guard) t.trans) =
    lists_let second other (row_lists t) (λ h. need (or_right (has_obs t.obs) (has_strict (row_lists t)) h)) in
    let locs_let = each_of_flat Lets LocRows t.locs (each_front Lets (flat_map LocRows t.locs) (map (λ e. e.guard) t.trans) lets) in
    let trans_let = each_of_map Lets (λ (e : TransTree). e.guard) t.trans (each_rest Lets (flat_map LocRows t.locs) (map (λ e. e.guard) t.trans) lets) in
    let front : List Lined = statement t.line (name_marks t) in
    let parts_t = lines_front (front ++ vars ++ obs ++ locs ++ trans) (statement end_line end_marks) (subst AreSoundLines e sound) in
    let parts_l = lines_front (front ++ vars ++ obs ++ locs) trans parts_t in
    let parts_o = lines_front (front ++ vars ++ obs) locs parts_l in
    let parts_v = lines_front (front ++ vars) obs parts_o in
    let name = sound_statement t.line (name_marks t) (lines_front front vars parts_v) in
    let names = names_printed hv.0 t.vars hv.2
    (sound_statement t.var_line (the kinds.Var ∷ hv.0) (subst AreSoundLines hv.1 (lines_rest front vars parts_v))).1 in
    let o = obs_printed second other obs t.obs (λ h. need (or_left (has_obs t.obs) (has_strict (row_lists t)) h)) ho
    (lines_rest (front ++ vars) obs parts_o) in
    let l = in_order_printed (IsLoc second) (IsLoc other) loc_lines loc_alone (λ l. AreLet second other (LocRows l)) (loc_printed second other)
    locs t.locs locs_let hl (lines_rest (front ++ vars ++ obs) locs parts_l) in
    let r = in_order_printed (IsTrans second) (IsTrans other) trans_lines trans_alone (λ e. Each (IsLet second other) e.guard) (trans_printed second other)
    trans t.trans trans_let ht (lines_rest (front ++ vars ++ obs ++ locs) trans parts_t) in
    let O : List (List Mark) = obs_line t.obs in
    let L : List (List Mark) = flat_map loc_lines t.locs in
    let T : List (List Mark) = flat_map trans_lines t.trans in
    let head : List (List Mark) = name_marks t ∷ var_marks t ∷ O in record {
      from = λ line.
          let at_locs : ℕ = line + length head in
          let at_trans : ℕ = line + length (head ++ L) in
          let at_end : ℕ = line + length (head ++ L ++ T) in
          let oo = o.from (line + 1 + 1) in let ll = l.from at_locs in let rr = r.from at_trans in record {
            other = record {
              line = line;
              name = t.name;
              vars = t.vars;
              var_line = line + 1;
              obs = oo.other;
              locs = ll.other;
              trans = rr.other;
            };
            is = (
              statement (line + 1) (var_marks t),
              numbered (line + 1 + 1) O,
              numbered at_locs L,
              numbered at_trans T,
              at_end,
              tree_numbered line (name_marks t) (var_marks t) end_marks O L T,
              (joined name_tokens t.vars, refl, names.0),
              oo.is,
              others_some loc_alone t.locs ll.other ll.same hs,
              ll.is,
              rr.is,
            );
            same = let p = oo.same in let q = ll.same in let w = rr.same in cc;
          };
      good =
          each_append IsLine (head ++ L ++ T) (end_marks ∷ [])
          (each_append IsLine (head ++ L) T
          (each_append IsLine head L ((refl, tt, (name.1.0, tt, tt)), ((refl, tt, names.1), o.good)) l.good) r.good)
          ((refl, tt, tt), tt);
    }

-- ---- a text

version_writable : (second : Bool) → IsNumberText (version second)
unfolding digits gcd
version_writable true = (record { num = pos 2; den = pos 1 }, refl, literals_are (codes "2") (record { num = pos 2; den = pos 1 }) refl)
version_writable false = (record { num = pos 1; den = pos 1 }, refl, literals_are (codes "1") (record { num = pos 1; den = pos 1 }) refl)

-- the canonical lines, and the end of the text
abbrev pub canonical_tokens : List Tree → List Lined
canonical_tokens trees =
    numbered 1 (canonical_lines trees) ++ record { line = 1 + length (canonical_lines trees); mark = the kinds.EndText } ∷ []

-- they spell trees that are the same but for their lines, and can be written
pub record AreSpelledBack (trees : List Tree) : Type 0 where
  pub others : List Tree
  pub is : Spell (canonical_tokens trees) others
  pub same : map tree_alone trees ≡ map tree_alone others
  pub good : Each IsLine (canonical_lines trees)

pub spelled_back : (ls : List Lined) (trees : List Tree) → Spell ls trees → AreSoundLines ls → AreSpelledBack trees
spelled_back ls trees (second, first_line, last_line, rest, e, some, order) sound =
    let other : Bool = list_any needs_second trees in
    let parts = subst AreSoundLines e sound in
    let front : List Lined = statement first_line (the kinds.Lha ∷ a_number (version second) ∷ []) in
    let ts = in_order_printed (IsTree second) (IsTree other) tree_lines tree_alone (NeedIsMet other) (tree_printed second other) rest trees
    (each_any needs_second trees) order
    (lines_rest front rest (lines_front (front ++ rest) (record { line = last_line; mark = the kinds.EndText } ∷ []) parts)) in
    let t = ts.from 2 in record {
      others = t.other;
      is = (other, 1, 1 + length (canonical_lines trees), numbered 2 (flat_map tree_lines trees), refl, others_some tree_alone trees t.other t.same some, t.is);
      same = t.same;
      good = ((refl, tt, (version_writable other, tt, tt)), ts.good);
    }
