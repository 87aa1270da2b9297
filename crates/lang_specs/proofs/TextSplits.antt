-- A text spells at most one list of trees.
use Rattle.std.proofs.Common.{◌≡◌, ℕ, Bool, true, false, List, [], ◌∷◌, ◌++◌, codes, Option, Some, None, refl, sym, ap, ◌∙◌, subst, append_assoc}
use Rattle.std.specs.List.{list_all}
use Rattle.std.specs.Prelude.{bytes_eq}
use Rattle.lang_specs.specs.declared.Kind.{Kind}
use Rattle.lang_specs.specs.declared.Kind.TheVariants as kinds
use Rattle.lang_specs.specs.declared.Which.TheVariants as which
use Rattle.lang_specs.specs.Lines.{text_tokens}
use Rattle.lang_specs.specs.Marks.{the, a_name, a_number, Lined, lined, statement}
use Rattle.lang_specs.specs.Trees.{BoundsTree, LocTree, TransTree, Tree}
use Rattle.lang_specs.specs.Limits.{has_few_digits}
use Rattle.lang_specs.specs.Expressions.{AreJoined, IsSome, IsName, IsBound}
use Rattle.lang_specs.specs.Grammar.{AreInOrder, IsLoc, IsTrans, IsVars, IsObs, IsTree, version, Spell}
use Rattle.lang_specs.specs.FirstFault.{IsSpelling}
use Rattle.lang_specs.proofs.ListLemmas.{head_is, tail_is}
use Rattle.lang_specs.proofs.SplitLemmas.{apart, both_left, both_right}
use Rattle.lang_specs.proofs.ItemSplits.{list_same}
use Rattle.lang_specs.proofs.ListSplits.{ends_list, joined_splits, name_splits, bound_splits}
use Rattle.lang_specs.proofs.LineSplits.{LinesRead, lines_front, lines_rest, LineHead, line_head_not, line_head_by, one_line, SameLines, LinesSplit, is_kind_out, after_loc, loc_splits, trans_splits}

-- ---- things in order

-- what stands behind a thing, where others follow: another one, or what ends them
record Follows (starts ends both : Kind → Bool) : Type 0 where
  start_wider : (k : Kind) → starts k ≡ true → both k ≡ true
  end_wider : (k : Kind) → ends k ≡ true → both k ≡ true
  apart_from : (k : Kind) → starts k ≡ true → ends k ≡ false

abbrev Starts : {X : Type 0} → (Kind → Bool) → (List Lined → X → Type 0) → Type 0
Starts {X} starts Is = (ls rest : List Lined) (x : X) → Is ls x → LineHead starts (ls ++ rest)

order_head : {X : Type 0} (Is : List Lined → X → Type 0) (starts ends both : Kind → Bool) → Starts starts Is → Follows starts ends both →
    (ls rest : List Lined) (xs : List X) → AreInOrder Is ls xs → LineHead ends rest → LineHead both (ls ++ rest)
order_head Is starts ends both each f ls rest [] h c =
    subst (λ z. LineHead both (z ++ rest)) (sym h) (line_head_by ends both rest f.end_wider c)
order_head Is starts ends both each f ls rest (x ∷ xs) (a, b, p, h, k) c =
    let head = line_head_by starts both (a ++ (b ++ rest)) f.start_wider (each a (b ++ rest) x h) in
    subst (LineHead both) (sym (append_assoc a b rest) ∙ ap (λ z. z ++ rest) (sym p)) head

order_splits : {X : Type 0} (Is : List Lined → X → Type 0) (starts ends both : Kind → Bool) → Starts starts Is → Follows starts ends both →
    LinesSplit both Is → LinesSplit ends (AreInOrder Is)
order_splits Is starts ends both each f one front other rest after [] [] h k read c d e =
    record { rests = ap (λ z. z ++ rest) (sym h) ∙ e ∙ ap (λ z. z ++ after) k; things = refl }
order_splits Is starts ends both each f one front other rest after [] (y ∷ ys) h (g, s, q, l, m) read c d e =
    let whole : g ++ (s ++ after) ≡ rest = sym (append_assoc g s after) ∙ ap (λ z. z ++ after) (sym q) ∙ sym e ∙ ap (λ z. z ++ rest) h in
    absurd (line_head_not ends starts (g ++ (s ++ after)) rest f.apart_from (each g (s ++ after) y l) c whole)
order_splits Is starts ends both each f one front other rest after (x ∷ xs) [] (a, r, p, h, k) l read c d e =
    let whole : a ++ (r ++ rest) ≡ after = sym (append_assoc a r rest) ∙ ap (λ z. z ++ rest) (sym p) ∙ e ∙ ap (λ z. z ++ after) l in
    absurd (line_head_not ends starts (a ++ (r ++ rest)) after f.apart_from (each a (r ++ rest) x h) d whole)
order_splits Is starts ends both each f one front other rest after (x ∷ xs) (y ∷ ys) (a, r, p, h, k) (g, s, q, l, m) read c d e =
    let whole : a ++ (r ++ rest) ≡ g ++ (s ++ after) =
    sym (append_assoc a r rest) ∙ ap (λ z. z ++ rest) (sym p) ∙ e ∙ ap (λ z. z ++ after) q ∙ append_assoc g s after in
    let reads : LinesRead (a ++ r) = subst LinesRead p read in
    let firsts = one a g (r ++ rest) (s ++ after) x y h l (lines_front a r reads) (order_head Is starts ends both each f r rest xs k c)
    (order_head Is starts ends both each f s after ys m d) whole in
    let others = order_splits Is starts ends both each f one r s rest after xs ys k m (lines_rest a r reads) c d firsts.rests in
    record { rests = others.rests; things = list_same x y xs ys firsts.things others.things }

-- ---- locations and transitions

abbrev is_loc : Kind → Bool
is_loc kinds.Loc = true
is_loc k = false

abbrev is_trans : Kind → Bool
is_trans kinds.Trans = true
is_trans k = false

abbrev is_end : Kind → Bool
is_end kinds.End = true
is_end k = false

abbrev trans_or_end : Kind → Bool
trans_or_end kinds.Trans = true
trans_or_end kinds.End = true
trans_or_end k = false

loc_wider : (k : Kind) → is_loc k ≡ true → after_loc k ≡ true
loc_wider kinds.Loc h = refl
loc_wider k h = apart (sym h)

ends_wider : (k : Kind) → trans_or_end k ≡ true → after_loc k ≡ true
ends_wider kinds.Trans h = refl
ends_wider kinds.End h = refl
ends_wider k h = apart (sym h)

loc_apart : (k : Kind) → is_loc k ≡ true → trans_or_end k ≡ false
loc_apart kinds.Loc h = refl
loc_apart k h = apart (sym h)

locs_follow : Follows is_loc trans_or_end after_loc
locs_follow = record { start_wider = loc_wider; end_wider = ends_wider; apart_from = loc_apart }

trans_wider : (k : Kind) → is_trans k ≡ true → trans_or_end k ≡ true
trans_wider kinds.Trans h = refl
trans_wider k h = apart (sym h)

end_wider : (k : Kind) → is_end k ≡ true → trans_or_end k ≡ true
end_wider kinds.End h = refl
end_wider k h = apart (sym h)

trans_apart : (k : Kind) → is_trans k ≡ true → is_end k ≡ false
trans_apart kinds.Trans h = refl
trans_apart k h = apart (sym h)

trans_follow : Follows is_trans is_end trans_or_end
trans_follow = record { start_wider = trans_wider; end_wider = end_wider; apart_from = trans_apart }

loc_starts : (strict : Bool) → Starts is_loc (IsLoc strict)
loc_starts strict ls rest l (i, v, f, a, p, hi, hv, hf, ha) = subst (λ z. LineHead is_loc (z ++ rest)) (sym p) refl

trans_starts : (strict : Bool) → Starts is_trans (IsTrans strict)
trans_starts strict ls rest t (g, a, p, hg, ha) = subst (λ z. LineHead is_trans (z ++ rest)) (sym p) refl

some_starts : (strict : Bool) (ls rest : List Lined) (xs : List LocTree) → IsSome xs → AreInOrder (IsLoc strict) ls xs → LineHead is_loc (ls ++ rest)
some_starts strict ls rest [] h k = absurd h
some_starts strict ls rest (x ∷ xs) h (a, b, p, i, j) =
    subst (LineHead is_loc) (sym (append_assoc a b rest) ∙ ap (λ z. z ++ rest) (sym p)) (loc_starts strict a (b ++ rest) x i)

-- ---- an automaton

bounds_same : (x y : BoundsTree) → x.line ≡ y.line → x.bounds ≡ y.bounds → x ≡ y
bounds_same x y a b =
    let first : x ≡ record { line = y.line; bounds = x.bounds } = ap (λ z. record { line = z; bounds = x.bounds }) a in
    first ∙ ap (λ z. record { line = y.line; bounds = z }) b

obs_splits : (second : Bool) → LinesSplit is_loc (IsObs second)
obs_splits second front other rest after None None h i read c d e =
    record { rests = ap (λ z. z ++ rest) (sym h) ∙ e ∙ ap (λ z. z ++ after) i; things = refl }
obs_splits second front other rest after None (Some q) h (yes_so, (ns, i, j)) read c d e =
    absurd (is_kind_out is_loc kinds.Obs q.line ns rest after refl c (ap (λ z. z ++ rest) (sym h) ∙ e ∙ ap (λ z. z ++ after) i))
obs_splits second front other rest after (Some r) None (yes_so, (ms, h, i)) j read c d e =
    absurd (is_kind_out is_loc kinds.Obs r.line ms after rest refl d (ap (λ z. z ++ after) (sym j) ∙ sym e ∙ ap (λ z. z ++ rest) h))
obs_splits second front other rest after (Some r) (Some q) (so, (ms, h, i)) (too, (ns, j, l)) read c d e =
    let same = one_line ends_list (AreJoined IsBound) (joined_splits IsBound bound_splits) refl kinds.Obs r.line q.line ms ns rest after r.bounds q.bounds
    i l (subst LinesRead h read) (ap (λ z. z ++ rest) (sym h) ∙ e ∙ ap (λ z. z ++ after) j) in
    record { rests = same.rests; things = ap Some (bounds_same r q same.lines same.things) }

-- the variables and their line
record Vars : Type 0 where
  line : ℕ
  names : List (List ℕ)

abbrev vars_of : Tree → Vars
vars_of t = record { line = t.var_line; names = t.vars }

vars_parts : (x y : Vars) → x.line ≡ y.line → x.names ≡ y.names → x ≡ y
vars_parts x y a b =
    let first : x ≡ record { line = y.line; names = x.names } = ap (λ z. record { line = z; names = x.names }) a in
    first ∙ ap (λ z. record { line = y.line; names = z }) b

vars_split : (front other rest after : List Lined) (x y : Tree) → IsVars front x → IsVars other y → LinesRead front → front ++ rest ≡ other ++ after →
    SameLines rest after (vars_of x) (vars_of y)
vars_split front other rest after x y (ms, h, i) (ns, j, l) read e =
    let same = one_line ends_list (AreJoined IsName) (joined_splits IsName name_splits) refl kinds.Var x.var_line y.var_line ms ns rest after x.vars y.vars
    i l (subst LinesRead h read) (ap (λ z. z ++ rest) (sym h) ∙ e ∙ ap (λ z. z ++ after) j) in
    record { rests = same.rests; things = vars_parts (vars_of x) (vars_of y) same.lines same.things }

tree_of : (line : ℕ) (name : List ℕ) (vars : Vars) (obs : Option BoundsTree) (locs : List LocTree) (trans : List TransTree) → Tree
tree_of line name vars obs locs trans = record {
  line = line;
  name = name;
  vars = vars.names;
  var_line = vars.line;
  obs = obs;
  locs = locs;
  trans = trans;
}

tree_parts : (x y : Tree) → x.line ≡ y.line → x.name ≡ y.name → vars_of x ≡ vars_of y → x.obs ≡ y.obs → x.locs ≡ y.locs → x.trans ≡ y.trans →
    tree_of x.line x.name (vars_of x) x.obs x.locs x.trans ≡ tree_of y.line y.name (vars_of y) y.obs y.locs y.trans
tree_parts x y a b c d e f =
    ap (λ z. tree_of z x.name (vars_of x) x.obs x.locs x.trans) a ∙ ap (λ z. tree_of y.line z (vars_of x) x.obs x.locs x.trans) b
    ∙ ap (λ z. tree_of y.line y.name z x.obs x.locs x.trans) c ∙ ap (λ z. tree_of y.line y.name (vars_of y) z x.locs x.trans) d
    ∙ ap (λ z. tree_of y.line y.name (vars_of y) y.obs z x.trans) e ∙ ap (λ z. tree_of y.line y.name (vars_of y) y.obs y.locs z) f

tree_same : (x y : Tree) → x.line ≡ y.line → x.name ≡ y.name → vars_of x ≡ vars_of y → x.obs ≡ y.obs → x.locs ≡ y.locs → x.trans ≡ y.trans → x ≡ y
unfolding tree_of
tree_same x y a b c d e f = tree_parts x y a b c d e f

pub regroup : (a b c d e f rest : List Lined) → (a ++ b ++ c ++ d ++ e ++ f) ++ rest ≡ a ++ (b ++ (c ++ (d ++ (e ++ (f ++ rest)))))
regroup a b c d e f rest =
    append_assoc (a ++ b ++ c ++ d ++ e) f rest ∙ append_assoc (a ++ b ++ c ++ d) e (f ++ rest) ∙ append_assoc (a ++ b ++ c) d (e ++ (f ++ rest))
    ∙ append_assoc (a ++ b) c (d ++ (e ++ (f ++ rest))) ∙ append_assoc a b (c ++ (d ++ (e ++ (f ++ rest))))

abbrev name_line : Tree → List Lined
name_line t = statement t.line (the kinds.Automaton ∷ a_name t.name ∷ [])

abbrev end_line : ℕ → List Lined
end_line n = statement n (the kinds.End ∷ [])

end_rest : (n m : ℕ) (rest after : List Lined) → end_line n ++ rest ≡ end_line m ++ after → rest ≡ after
end_rest n m rest after e =
    let one = tail_is (record { line = n; mark = the kinds.End }) (record { line = m; mark = the kinds.End })
    (record { line = n; mark = the kinds.EndLine } ∷ rest) (record { line = m; mark = the kinds.EndLine } ∷ after) e in
    tail_is (record { line = n; mark = the kinds.EndLine }) (record { line = m; mark = the kinds.EndLine }) rest after one

tree_splits : (second : Bool) (ends : Kind → Bool) → LinesSplit ends (IsTree second)
tree_splits second ends front other rest after x y (v, o, l, t, n, p, hv, ho, some, hl, ht) (w, u, k, s, m, q, kv, ku, also_some, kl, kt) read c d e =
    let whole : name_line x ++ (v ++ (o ++ (l ++ (t ++ (end_line n ++ rest))))) ≡ name_line y ++ (w ++ (u ++ (k ++ (s ++ (end_line m ++ after))))) =
    sym (regroup (name_line x) v o l t (end_line n) rest) ∙ ap (λ z. z ++ rest) (sym p) ∙ e ∙ ap (λ z. z ++ after) q
    ∙ regroup (name_line y) w u k s (end_line m) after in
    let reads_t = lines_front (name_line x ++ v ++ o ++ l ++ t) (end_line n) (subst LinesRead p read) in
    let reads_l = lines_front (name_line x ++ v ++ o ++ l) t reads_t in
    let reads_o = lines_front (name_line x ++ v ++ o) l reads_l in
    let reads_v = lines_front (name_line x ++ v) o reads_o in
    let head = one_line ends_list (AreJoined IsName) (joined_splits IsName name_splits) refl kinds.Automaton x.line y.line (a_name x.name ∷ []) (a_name y.name ∷ [])
    (v ++ (o ++ (l ++ (t ++ (end_line n ++ rest))))) (w ++ (u ++ (k ++ (s ++ (end_line m ++ after))))) (x.name ∷ []) (y.name ∷ []) refl refl
    (lines_front (name_line x) v reads_v) whole in
    let vars = vars_split v w (o ++ (l ++ (t ++ (end_line n ++ rest)))) (u ++ (k ++ (s ++ (end_line m ++ after)))) x y hv kv
    (lines_rest (name_line x) v reads_v) head.rests in
    let obs = obs_splits second o u (l ++ (t ++ (end_line n ++ rest))) (k ++ (s ++ (end_line m ++ after))) x.obs y.obs ho ku
    (lines_rest (name_line x ++ v) o reads_o) (some_starts second l (t ++ (end_line n ++ rest)) x.locs some hl)
    (some_starts second k (s ++ (end_line m ++ after)) y.locs also_some kl) vars.rests in
    let locs = order_splits (IsLoc second) is_loc trans_or_end after_loc (loc_starts second) locs_follow (loc_splits second) l k
    (t ++ (end_line n ++ rest)) (s ++ (end_line m ++ after)) x.locs y.locs hl kl (lines_rest (name_line x ++ v ++ o) l reads_l)
    (order_head (IsTrans second) is_trans is_end trans_or_end (trans_starts second) trans_follow t (end_line n ++ rest) x.trans ht refl)
    (order_head (IsTrans second) is_trans is_end trans_or_end (trans_starts second) trans_follow s (end_line m ++ after) y.trans kt refl) obs.rests in
    let trans = order_splits (IsTrans second) is_trans is_end trans_or_end (trans_starts second) trans_follow (trans_splits second trans_or_end) t s
    (end_line n ++ rest) (end_line m ++ after) x.trans y.trans ht kt (lines_rest (name_line x ++ v ++ o ++ l) t reads_t) refl refl locs.rests in
    let names : x.name ≡ y.name = head_is x.name y.name [] [] head.things in
    record {
      rests = end_rest n m rest after trans.rests;
      things = tree_same x y head.lines names vars.things obs.things locs.things trans.things;
    }

-- ---- a text

abbrev is_automaton : Kind → Bool
is_automaton kinds.Automaton = true
is_automaton k = false

abbrev is_last : Kind → Bool
is_last kinds.EndText = true
is_last k = false

abbrev after_tree : Kind → Bool
after_tree kinds.Automaton = true
after_tree kinds.EndText = true
after_tree k = false

automaton_wider : (k : Kind) → is_automaton k ≡ true → after_tree k ≡ true
automaton_wider kinds.Automaton h = refl
automaton_wider k h = apart (sym h)

last_wider : (k : Kind) → is_last k ≡ true → after_tree k ≡ true
last_wider kinds.EndText h = refl
last_wider k h = apart (sym h)

automaton_apart : (k : Kind) → is_automaton k ≡ true → is_last k ≡ false
automaton_apart kinds.Automaton h = refl
automaton_apart k h = apart (sym h)

trees_follow : Follows is_automaton is_last after_tree
trees_follow = record { start_wider = automaton_wider; end_wider = last_wider; apart_from = automaton_apart }

tree_starts : (second : Bool) → Starts is_automaton (IsTree second)
tree_starts second ls rest x (v, o, l, t, n, p, hv, ho, some, hl, ht) = subst (λ z. LineHead is_automaton (z ++ rest)) (sym p) refl

version_back : (second : Bool) → bytes_eq (version second) (codes "2") ≡ second
version_back true = refl
version_back false = refl

version_told : (a b : Bool) → version a ≡ version b → a ≡ b
version_told a b e = sym (version_back a) ∙ ap (λ z. bytes_eq z (codes "2")) e ∙ version_back b

abbrev first_line : ℕ → Bool → List Lined
first_line line second = statement line (the kinds.Lha ∷ a_number (version second) ∷ [])

abbrev text_end : ℕ → List Lined
text_end line = record { line = line; mark = the kinds.EndText } ∷ []

-- two texts with one list of tokens have one version, and go on alike
record SameStart (a b : Bool) (rest after : List Lined) : Type 0 where
  versions : a ≡ b
  rests : rest ≡ after

start_same : (n m : ℕ) (a b : Bool) (rest after : List Lined) → first_line n a ++ rest ≡ first_line m b ++ after → SameStart a b rest after
start_same n m a b rest after e =
    let one = tail_is (record { line = n; mark = the kinds.Lha }) (record { line = m; mark = the kinds.Lha })
    (record { line = n; mark = a_number (version a) } ∷ record { line = n; mark = the kinds.EndLine } ∷ rest)
    (record { line = m; mark = a_number (version b) } ∷ record { line = m; mark = the kinds.EndLine } ∷ after) e in
    let version_is = head_is (record { line = n; mark = a_number (version a) }) (record { line = m; mark = a_number (version b) })
    (record { line = n; mark = the kinds.EndLine } ∷ rest) (record { line = m; mark = the kinds.EndLine } ∷ after) one in
    let two = tail_is (record { line = n; mark = a_number (version a) }) (record { line = m; mark = a_number (version b) })
    (record { line = n; mark = the kinds.EndLine } ∷ rest) (record { line = m; mark = the kinds.EndLine } ∷ after) one in
    record {
      versions = version_told a b (ap (λ l. l.mark.text) version_is);
      rests = tail_is (record { line = n; mark = the kinds.EndLine }) (record { line = m; mark = the kinds.EndLine }) rest after two;
    }

pub one_spelled : (ls : List Lined) (trees others : List Tree) → Spell ls trees → Spell ls others → LinesRead ls → trees ≡ others
one_spelled ls trees others (a, n, i, rest, p, some, h) (b, m, j, after, q, also_some, k) read =
    let whole : first_line n a ++ (rest ++ text_end i) ≡ first_line m b ++ (after ++ text_end j) =
    sym (append_assoc (first_line n a) rest (text_end i)) ∙ sym p ∙ q ∙ append_assoc (first_line m b) after (text_end j) in
    let start = start_same n m a b (rest ++ text_end i) (after ++ text_end j) whole in
    let reads = lines_rest (first_line n a) rest (lines_front (first_line n a ++ rest) (text_end i) (subst LinesRead p read)) in
    let same = order_splits (IsTree a) is_automaton is_last after_tree (tree_starts a) trees_follow (tree_splits a after_tree) rest after (text_end i)
    (text_end j) trees others h (subst (λ z. AreInOrder (IsTree z) after others) (sym start.versions) k) reads refl refl start.rests in
    same.things

-- ---- literals that are read

pub all_read : (ls : List Lined) → list_all (λ l. has_few_digits l.mark.kind l.mark.text) ls ≡ true → LinesRead ls
all_read [] h = tt
all_read (l ∷ ls) h =
    let first = has_few_digits l.mark.kind l.mark.text in
    let others = list_all (λ z. has_few_digits z.mark.kind z.mark.text) ls in
    (both_left first others h, all_read ls (both_right first others h))

pub one_tree_list : (text : List ℕ) (trees others : List Tree) → IsSpelling text trees → IsSpelling text others → trees ≡ others
one_tree_list text trees others h k =
    one_spelled (lined (text_tokens text)) trees others h.spelled k.spelled (all_read (lined (text_tokens text)) (h.kept which.Digits))
