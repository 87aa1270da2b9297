-- A text keeps to a limit exactly where its lines do, and the counts.
use Rattle.std.proofs.Common.{◌≡◌, ℕ, ◌+◌, Bool, true, List, [], ◌∷◌, ◌++◌, length, Some, refl, sym, ap, ◌∙◌, subst, arith}
use Rattle.std.specs.Prelude.{nat_le, IsTrue}
use Rattle.std.proofs.lemmas.Bool.{le-leb}
use Rattle.lang_specs.specs.declared.Which.{Which}
use Rattle.lang_specs.specs.declared.Which.TheVariants.{Automata, Variables, Locations, Transitions, Rows, Terms, NameBytes, Digits}
use Rattle.lang_specs.specs.Marks.{Mark, the, Lined}
use Rattle.lang_specs.specs.Limits.{has_at_most, has_few_bytes, has_few_digits, Keeps}
use Rattle.lang_specs.proofs.EachLemmas.{Each, each_of_all, all_of_each}
use Rattle.lang_order.specs.declared.Place.{Place}
use Rattle.lang_order.specs.declared.Place.TheVariants as places
use Rattle.lang_order.specs.Statements.{Statement, Version, Automaton, first_word, Numbered}
use Rattle.lang_order.specs.Order.{next, Leads}
use Rattle.lang_order.specs.Building.{Parts, put, parts_of, trees_of}
use Rattle.lang_order.specs.ByLines.{text_end}
use Rattle.lang_order.specs.LineLimits.{line_keeps, Counts, none_yet, count, are_few, StayFew}
use Rattle.lang_order.specs.Beginnings.{IsWithin}
use Rattle.lang_order.proofs.ToGrammar.{none_some, some_is}
use Rattle.lang_order.proofs.Walks.{Any, Walk, order_of}
use Rattle.lang_order.proofs.ClearParts.{clear_at}
use Rattle.lang_order.proofs.PartsKept.{Asked, RowsAre, BoundsAre, LocIs, TransIs, TreeIs, LineIs, PartsAre, parts_kept, lines_kept}
use Rattle.lang_order.proofs.CountsKept.{count_of_lines, lines_of_count}
use Rattle.lang_order.proofs.TokensKept.{lines_of_tokens, tokens_of_lines}
use Rattle.lang_order.proofs.LinesKept.{rows_asked, terms_asked, vars_asked, trees_few_rows, few_rows_of_trees, trees_few_terms, few_terms_of_trees, trees_few_vars, few_vars_of_trees, line_few_rows, few_rows_of_line, line_few_terms, few_terms_of_line, line_few_vars, few_vars_of_line}

-- ---- lines and counts

module _ (w : Which) (G : Counts → List Mark → Statement → Type 0) where
  -- lines that keep to the limit, and counts that do
  both_keep : ((c : Counts) (ms : List Mark) (s : Statement) → G c ms s → IsTrue (line_keeps w ms s)) → (v : Bool) (p : Place) (c : Counts) (ls : List Lined)
      (ss : List Numbered) (q : Place) → Walk G v p c ls ss q → StayFew w c ss → Walk (IsWithin w) v p c ls ss q
  both_keep f v p c ls [] q h few = h
  both_keep f v p c ls (s ∷ ss) q (body, rest, r, e, b, g, d, h) few =
      (body, rest, r, e, b, (f c (the (first_word s.says) ∷ body) s.says g, few.0), d, both_keep f v r (count c (first_word s.says)) rest ss q h few.1)

  lines_keep : ((c : Counts) (ms : List Mark) (s : Statement) → IsTrue (line_keeps w ms s) → G c ms s) → (v : Bool) (p : Place) (c : Counts) (ls : List Lined)
      (ss : List Numbered) (q : Place) → Walk (IsWithin w) v p c ls ss q → Walk G v p c ls ss q
  lines_keep f v p c ls [] q h = h
  lines_keep f v p c ls (s ∷ ss) q (body, rest, r, e, b, g, d, h) =
      (body, rest, r, e, b, f c (the (first_word s.says) ∷ body) s.says g.0, d, lines_keep f v r (count c (first_word s.says)) rest ss q h)

few_of_walk : (w : Which) (v : Bool) (p : Place) (c : Counts) (ls : List Lined) (ss : List Numbered) (q : Place) → Walk (IsWithin w) v p c ls ss q → StayFew w c ss
few_of_walk w v p c ls [] q h = tt
few_of_walk w v p c ls (s ∷ ss) q (body, rest, r, e, b, g, d, h) = (g.1, few_of_walk w v r (count c (first_word s.says)) rest ss q h)

-- where the counts are not asked for
free : (w : Which) → ((c : Counts) → IsTrue (are_few w c)) → (c : Counts) (ss : List Numbered) → StayFew w c ss
free w f c [] = tt
free w f c (s ∷ ss) = (f (count c (first_word s.says)), free w f (count c (first_word s.says)) ss)

-- ---- counts of trees

none_before : (n m : ℕ) → nat_le n m ≡ true → nat_le (0 + n) m ≡ true
none_before n m h = let e : 0 + n ≡ n = omega arith in ap (λ z. nat_le z m) e ∙ h

before_none : (n m : ℕ) → nat_le (0 + n) m ≡ true → nat_le n m ≡ true
before_none n m h = let e : n ≡ 0 + n = omega arith in ap (λ z. nat_le z m) e ∙ h

-- before the first automaton stands no location and no transition
record IsBare (x : Parts) : Type 0 where
  locs : x.locs ≡ []
  trans : x.trans ≡ []

bare_tree : (q : Place) (n : ℕ) (s : Statement) (x : Parts) → next places.Lha (first_word s) ≡ Some q → IsBare (put n s x)
bare_tree q n (Automaton name) x e = record { locs = refl; trans = refl }
bare_tree q n s x e = none_some q e

bare_behind : (p q : Place) (ss : List Numbered) → p ≡ places.Lha → Leads p ss places.End → IsBare (parts_of ss)
bare_behind p q [] e h = record { locs = refl; trans = refl }
bare_behind p q (s ∷ ss) e (r, d, h) = bare_tree r s.line s.says (parts_of ss) (subst (λ z. next z (first_word s.says) ≡ Some r) e d)

bare_first : (q : Place) (n : ℕ) (s : Statement) (ss : List Numbered) → next places.Start (first_word s) ≡ Some q → Leads q ss places.End →
    IsBare (put n s (parts_of ss))
bare_first q n (Version w) ss e h = bare_behind q q ss (sym (some_is places.Lha q e)) h
bare_first q n s ss e h = none_some q e

bare : (ss : List Numbered) → Leads places.Start ss places.End → IsBare (parts_of ss)
bare [] e = record { locs = refl; trans = refl }
bare (s ∷ ss) (q, d, h) = bare_first q s.line s.says ss d h

no_more : {X : Type 0} (xs : List X) (m : ℕ) → xs ≡ [] → nat_le (0 + length xs) m ≡ true
no_more xs m e = none_before (length xs) m (ap (λ z. has_at_most m z) e ∙ le-leb 0 m (omega arith))

-- what is asked of the trees is asked of all parts, since nothing stands before them
bare_parts : (k : Asked) → k.vars [] → (ss : List Numbered) → Leads places.Start ss places.End → Each (TreeIs k) (trees_of ss) → PartsAre k (parts_of ss)
bare_parts k b ss h e =
    let x = parts_of ss in
    let c = clear_at places.Start ss h in
    let d = bare ss h in record {
      vars = subst k.vars (sym c.0) b;
      obs = subst (BoundsAre k) (sym c.1) tt;
      locs = subst (Each (LocIs k)) (sym d.locs) tt;
      trans = subst (Each (TransIs k)) (sym d.trans) tt;
      init = subst (RowsAre k) (sym c.2) tt;
      inv = subst (RowsAre k) (sym c.3) tt;
      also = subst (RowsAre k) (sym c.4) tt;
      trees = e;
    }

-- ---- a text

module _ (v : Bool) (ls : List Lined) (ss : List Numbered) (last : ℕ) where
  -- these lines are a text, with this asked of each
  abbrev Text : (Counts → List Mark → Statement → Type 0) → Type 0
  Text G = Walk G v places.Start none_yet ls ss places.End

  counted : (w : Which) → ((c : Counts) (ms : List Mark) (s : Statement) → IsTrue (line_keeps w ms s)) → Text Any → StayFew w none_yet ss → Text (IsWithin w)
  counted w f h few = both_keep w Any (λ c ms s g. f c ms s) v places.Start none_yet ls ss places.End h few

  of_trees : (w : Which) (k : Asked) → k.acts [] → k.vars [] → ((c : Counts) (ms : List Mark) (s : Statement) → LineIs k s → IsTrue (line_keeps w ms s)) →
      ((c : Counts) → IsTrue (are_few w c)) → Text Any → Each (TreeIs k) (trees_of ss) → Text (IsWithin w)
  of_trees w k a b f g h e =
      let parts = bare_parts k b ss (order_of Any v places.Start none_yet ls ss places.End h) e in
      both_keep w (λ c ms s. LineIs k s) f v places.Start none_yet ls ss places.End (lines_kept k a b v places.Start none_yet ls ss h parts) (free w g none_yet ss)

  in_trees : (w : Which) (k : Asked) → k.acts [] → k.vars [] → ((c : Counts) (ms : List Mark) (s : Statement) → IsTrue (line_keeps w ms s) → LineIs k s) →
      Text (IsWithin w) → Each (TreeIs k) (trees_of ss)
  in_trees w k a b f h =
      let lines = lines_keep w (λ c ms s. LineIs k s) f v places.Start none_yet ls ss places.End h in
      let p = parts_kept k a b v places.Start none_yet ls ss places.End lines in p.trees

  pub keeps_lines : (w : Which) → Text Any → Keeps w (ls ++ text_end last) (trees_of ss) → Text (IsWithin w)
  keeps_lines Automata h k = counted Automata (λ c ms s. refl) h (lines_of_count Automata none_yet ss (none_before (length (trees_of ss)) 16 k))
  keeps_lines Locations h k =
      let b = bare ss (order_of Any v places.Start none_yet ls ss places.End h) in
      counted Locations (λ c ms s. refl) h
      (lines_of_count Locations none_yet ss (no_more (parts_of ss).locs 32 b.locs, each_of_all (λ t. has_at_most 32 t.locs) (trees_of ss) k))
  keeps_lines Transitions h k =
      let b = bare ss (order_of Any v places.Start none_yet ls ss places.End h) in
      counted Transitions (λ c ms s. refl) h
      (lines_of_count Transitions none_yet ss (no_more (parts_of ss).trans 128 b.trans, each_of_all (λ t. has_at_most 128 t.trans) (trees_of ss) k))
  keeps_lines Variables h k = of_trees Variables vars_asked tt refl (λ c ms s. line_few_vars ms s) (λ c. refl) h (trees_few_vars (trees_of ss) k)
  keeps_lines Rows h k = of_trees Rows rows_asked tt tt (λ c ms s. line_few_rows ms s) (λ c. refl) h (trees_few_rows (trees_of ss) k)
  keeps_lines Terms h k = of_trees Terms terms_asked tt tt (λ c ms s. line_few_terms ms s) (λ c. refl) h (trees_few_terms (trees_of ss) k)
  keeps_lines NameBytes h k =
      both_keep NameBytes (λ c ms s. IsTrue (line_keeps NameBytes ms s)) (λ c ms s g. g) v places.Start none_yet ls ss places.End
      (lines_of_tokens has_few_bytes refl refl v places.Start none_yet ls ss places.End last h k) (free NameBytes (λ c. refl) none_yet ss)
  keeps_lines Digits h k =
      both_keep Digits (λ c ms s. IsTrue (line_keeps Digits ms s)) (λ c ms s g. g) v places.Start none_yet ls ss places.End
      (lines_of_tokens has_few_digits refl refl v places.Start none_yet ls ss places.End last h k) (free Digits (λ c. refl) none_yet ss)

  few_of : (w : Which) → Text (IsWithin w) → StayFew w none_yet ss
  few_of w h = few_of_walk w v places.Start none_yet ls ss places.End h

  pub lines_keep_so : (w : Which) → Text (IsWithin w) → Keeps w (ls ++ text_end last) (trees_of ss)
  lines_keep_so Automata h = before_none (length (trees_of ss)) 16 (count_of_lines Automata none_yet ss refl (few_of Automata h))
  lines_keep_so Locations h =
      all_of_each (λ t. has_at_most 32 t.locs) (trees_of ss) (count_of_lines Locations none_yet ss refl (few_of Locations h)).1
  lines_keep_so Transitions h =
      all_of_each (λ t. has_at_most 128 t.trans) (trees_of ss) (count_of_lines Transitions none_yet ss refl (few_of Transitions h)).1
  lines_keep_so Variables h = few_vars_of_trees (trees_of ss) (in_trees Variables vars_asked tt refl (λ c ms s. few_vars_of_line ms s) h)
  lines_keep_so Rows h = few_rows_of_trees (trees_of ss) (in_trees Rows rows_asked tt tt (λ c ms s. few_rows_of_line ms s) h)
  lines_keep_so Terms h = few_terms_of_trees (trees_of ss) (in_trees Terms terms_asked tt tt (λ c ms s. few_terms_of_line ms s) h)
  lines_keep_so NameBytes h =
      tokens_of_lines has_few_bytes refl refl v places.Start none_yet ls ss places.End last
      (lines_keep NameBytes (λ c ms s. IsTrue (line_keeps NameBytes ms s)) (λ c ms s g. g) v places.Start none_yet ls ss places.End h)
  lines_keep_so Digits h =
      tokens_of_lines has_few_digits refl refl v places.Start none_yet ls ss places.End last
      (lines_keep Digits (λ c ms s. IsTrue (line_keeps Digits ms s)) (λ c ms s g. g) v places.Start none_yet ls ss places.End h)
