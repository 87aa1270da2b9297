-- The canonical text of trees that a text spells, spells the same trees but for their lines.
use Rattle.std.proofs.Common.{◌≡◌, ℕ, suc, ◌+◌, Bool, true, not, ◌&&◌, List, [], ◌∷◌, ◌++◌, length, map, Option, Some, None, refl, sym, ap, ◌∙◌, subst}
use Rattle.std.specs.Prelude.{nat_le}
use Rattle.std.specs.List.{flat_map, list_all, list_any}
use Rattle.std.specs.Str.{bytes_eq}
use Rattle.number_specs.specs.Literals.{read_literal}
use Rattle.number_specs.proofs.LiteralLemmas.{literals_back}
use Rattle.run_specs.specs.Names.{has_name_length, begins_as_name, is_word_byte, keywords}
use Rattle.lang_specs.specs.declared.Kind.{Kind}
use Rattle.lang_specs.specs.declared.Kind.TheVariants as kinds
use Rattle.lang_specs.specs.declared.Which.{Which}
use Rattle.lang_specs.specs.declared.Which.TheVariants.{Automata, Variables, Locations, Transitions, Rows, Terms, NameBytes, Digits}
use Rattle.lang_specs.specs.Lines.{text_tokens}
use Rattle.lang_specs.specs.Marks.{Mark, the, Lined, lined, statement}
use Rattle.lang_specs.specs.Trees.{BoundsTree, Tree, row_lists, act_expressions, expressions, bounds_of}
use Rattle.lang_specs.specs.Limits.{row_count, has_at_most, has_few_bytes, is_in_range, has_few_digits, Keeps}
use Rattle.lang_specs.specs.FirstFault.{IsSpelling}
use Rattle.lang_specs.specs.Grammar.{Spell}
use Rattle.lang_specs.specs.Canonical.{canonical_lines, canonical_text}
use Rattle.lang_specs.specs.SameTrees.{bounds_alone, loc_alone, trans_alone, tree_alone, SameTrees}
use Rattle.lang_specs.proofs.SplitLemmas.{both_left, both_right}
use Rattle.lang_specs.proofs.CanonicalLemmas.{flat_map_alike, row_lists_alike}
use Rattle.lang_specs.proofs.EachLemmas.{Each, each_append, all_of_each}
use Rattle.lang_specs.proofs.FrontLemmas.{IsNumberText}
use Rattle.lang_specs.proofs.CutLemmas.{IsWritable, AreWritable}
use Rattle.lang_specs.proofs.TextCuts.{IsLine, numbered, text_is_cut}
use Rattle.lang_specs.proofs.SoundLemmas.{text_is_sound}
use Rattle.lang_specs.proofs.PrintedTrees.{canonical_tokens, spelled_back}

-- ---- limits on trees, which do not speak of lines

length_map : {A B : Type 0} (f : A → B) (xs : List A) → length (map f xs) ≡ length xs
length_map f [] = refl
length_map f (x ∷ xs) = ap suc (length_map f xs)

all_alike : {A : Type 0} (p : A → Bool) (g : A → A) → ((x : A) → p (g x) ≡ p x) → (xs : List A) → list_all p (map g xs) ≡ list_all p xs
all_alike p g h [] = refl
all_alike p g h (x ∷ xs) = let e = h x in let k = all_alike p g h xs in cc

bounds_alike : (t : Tree) → bounds_of (bounds_alone t.obs) ≡ bounds_of t.obs
bounds_alike t = bounds_same t.obs where
  bounds_same : (o : Option BoundsTree) → bounds_of (bounds_alone o) ≡ bounds_of o
  bounds_same None = refl
  bounds_same (Some o) = refl

expressions_alike : (t : Tree) → expressions (tree_alone t) ≡ expressions t
expressions_alike t =
    let a = row_lists_alike t in
    let b = flat_map_alike trans_alone (λ e. flat_map act_expressions e.acts) (λ e. refl) t.trans in
    ap (λ z. flat_map (λ rows. flat_map (λ r. r.left ∷ r.right ∷ []) rows) z ++ flat_map (λ e. flat_map act_expressions e.acts) (map trans_alone t.trans)) a
    ∙ ap (λ z. flat_map (λ rows. flat_map (λ r. r.left ∷ r.right ∷ []) rows) (row_lists t) ++ z) b

-- whether one automaton keeps to a limit; those on tokens and on all automata ask nothing of it
abbrev tree_keeps : Which → Tree → Bool
tree_keeps Variables t = has_at_most 6 t.vars && has_at_most 6 (bounds_of t.obs)
tree_keeps Locations t = has_at_most 32 t.locs
tree_keeps Transitions t = has_at_most 128 t.trans
tree_keeps Rows t = list_all (λ rows. nat_le (row_count rows) 12) (row_lists t)
tree_keeps Terms t = list_all (has_at_most 14) (expressions t)
tree_keeps which t = true

tree_alike : (which : Which) (t : Tree) → tree_keeps which (tree_alone t) ≡ tree_keeps which t
tree_alike Variables t = ap (λ z. has_at_most 6 t.vars && has_at_most 6 z) (bounds_alike t)
tree_alike Locations t = ap (λ n. nat_le n 32) (length_map loc_alone t.locs)
tree_alike Transitions t = ap (λ n. nat_le n 128) (length_map trans_alone t.trans)
tree_alike Rows t = ap (list_all (λ rows. nat_le (row_count rows) 12)) (row_lists_alike t)
tree_alike Terms t = ap (list_all (has_at_most 14)) (expressions_alike t)
tree_alike which t = refl

trees_keep : (which : Which) (trees others : List Tree) → SameTrees trees others → list_all (tree_keeps which) trees ≡ true →
    list_all (tree_keeps which) others ≡ true
trees_keep which trees others same h =
    sym (all_alike (tree_keeps which) tree_alone (tree_alike which) others) ∙ ap (list_all (tree_keeps which)) (sym same)
    ∙ all_alike (tree_keeps which) tree_alone (tree_alike which) trees ∙ h

few_keep : (trees others : List Tree) → SameTrees trees others → has_at_most 16 trees ≡ true → has_at_most 16 others ≡ true
few_keep trees others same h =
    ap (λ n. nat_le n 16) (sym (length_map tree_alone others) ∙ ap length (sym same) ∙ length_map tree_alone trees) ∙ h

-- ---- limits on tokens

few_bytes : (k : Kind) (text : List ℕ) → IsWritable k text → has_few_bytes k text ≡ true
few_bytes kinds.Name text w =
    let front = both_left (has_name_length text && begins_as_name text && list_all is_word_byte text) (not (list_any (bytes_eq text) keywords)) w in
    let size = both_left (has_name_length text) (begins_as_name text) (both_left (has_name_length text && begins_as_name text) (list_all is_word_byte text) front) in
    both_right (nat_le 1 (length text)) (nat_le (length text) 32) size
few_bytes k text w = refl

number_is_read : (text : List ℕ) → IsNumberText text → is_in_range (read_literal text) ≡ true
number_is_read text (v, e, h) = ap (λ z. is_in_range (read_literal z)) e ∙ ap is_in_range (literals_back v h)

few_digits : (k : Kind) (text : List ℕ) → IsWritable k text → has_few_digits k text ≡ true
few_digits kinds.Number text w = number_is_read text w
few_digits k text w = refl

-- what holds of each token that can be written, and of the ends, holds of canonical tokens
module _ (p : Kind → List ℕ → Bool) (written : (k : Kind) (text : List ℕ) → IsWritable k text → p k text ≡ true) (line : p kinds.EndLine [] ≡ true)
    (last : p kinds.EndText [] ≡ true) where
  abbrev Passes : Lined → Type 0
  Passes l = p l.mark.kind l.mark.text ≡ true

  statement_passes : (n : ℕ) (ms : List Mark) → AreWritable ms → Each Passes (statement n ms)
  statement_passes n [] w = (line, tt)
  statement_passes n (m ∷ ms) (w, l, g) = (written m.kind m.text w, statement_passes n ms g)

  line_passes : (n : ℕ) (ms : List Mark) → IsLine ms → Each Passes (statement n ms)
  line_passes n [] h = absurd h
  line_passes n (m ∷ ms) h = statement_passes n (m ∷ ms) h

  numbered_pass : (n : ℕ) (lines : List (List Mark)) → Each IsLine lines → Each Passes (numbered n lines)
  numbered_pass n [] h = tt
  numbered_pass n (ms ∷ lines) h =
      each_append Passes (statement n ms) (numbered (n + 1) lines) (line_passes n ms h.0) (numbered_pass (n + 1) lines h.1)

  tokens_pass : (trees : List Tree) → Each IsLine (canonical_lines trees) → list_all (λ l. p l.mark.kind l.mark.text) (canonical_tokens trees) ≡ true
  tokens_pass trees h =
      all_of_each (λ l. p l.mark.kind l.mark.text) (canonical_tokens trees)
      (each_append Passes (numbered 1 (canonical_lines trees)) (record { line = 1 + length (canonical_lines trees); mark = the kinds.EndText } ∷ [])
      (numbered_pass 1 (canonical_lines trees) h) (last, tt))

limits_kept : (ls : List Lined) (trees others : List Tree) → SameTrees trees others → Each IsLine (canonical_lines trees) →
    ((which : Which) → Keeps which ls trees) → (which : Which) → Keeps which (canonical_tokens trees) others
limits_kept ls trees others same good kept Automata = few_keep trees others same (kept Automata)
limits_kept ls trees others same good kept Variables = trees_keep Variables trees others same (kept Variables)
limits_kept ls trees others same good kept Locations = trees_keep Locations trees others same (kept Locations)
limits_kept ls trees others same good kept Transitions = trees_keep Transitions trees others same (kept Transitions)
limits_kept ls trees others same good kept Rows = trees_keep Rows trees others same (kept Rows)
limits_kept ls trees others same good kept Terms = trees_keep Terms trees others same (kept Terms)
limits_kept ls trees others same good kept NameBytes = tokens_pass has_few_bytes few_bytes refl refl trees good
limits_kept ls trees others same good kept Digits = tokens_pass has_few_digits few_digits refl refl trees good

-- ---- the canonical text

pub read_back : (text : List ℕ) (trees : List Tree) → IsSpelling text trees → (others : List Tree) × IsSpelling (canonical_text trees) others × SameTrees trees others
read_back text trees h =
    let sound = text_is_sound text trees h.kept in
    let back = spelled_back (lined (text_tokens text)) trees h.spelled sound in
    let tokens : lined (text_tokens (canonical_text trees)) ≡ canonical_tokens trees = text_is_cut (canonical_lines trees) back.good in
    let kept = limits_kept (lined (text_tokens text)) trees back.others back.same back.good h.kept in (
      back.others,
      record {
        spelled = subst (λ ls. Spell ls back.others) (sym tokens) back.is;
        kept = λ which. subst (λ ls. Keeps which ls back.others) (sym tokens) (kept which);
      },
      back.same,
    )
