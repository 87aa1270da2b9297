-- Reading a text: a line, its faults, and the end.
use Rattle.std.proofs.Common.{◌≡◌, ◌⊎◌, inl, inr, ℕ, ◌+◌, ◌<◌, ◌≤◌, true, false, List, [], ◌∷◌, ◌++◌, length, Some, None, refl, sym, ap, ◌∙◌, subst, append_assoc, arith}
use Rattle.std.specs.Prelude.{⊤, IsTrue, Result, Ok, Err, IfOk, IfErr, MatchResult}
use Rattle.std.proofs.lemmas.List.{map-append}
use Rattle.lang_specs.specs.declared.Which.{Which}
use Rattle.lang_specs.specs.declared.Kind.{Kind}
use Rattle.lang_specs.specs.declared.Kind.TheVariants as kinds
use Rattle.lang_specs.specs.Tokens.{Placed, line_tokens}
use Rattle.lang_specs.specs.Lines.{lines_of, unless_bare, end_of_text, tokens_from, text_tokens}
use Rattle.lang_specs.specs.Marks.{Mark, mark, the, lined}
use Rattle.lang_specs.specs.Trees.{Tree}
use Rattle.lang_specs.specs.FirstFault.{IsSpelling, Fault, SyntaxAt, LimitAt, IsFirstFault}
use Rattle.lang_specs.proofs.ListLemmas.{head_is}
use Rattle.lang_specs.proofs.SplitLemmas.{apart}
use Rattle.lang_specs.proofs.FaultLemmas.{none_beside, one_first}
use Rattle.lang_specs.proofs.TextSplits.{one_tree_list}
use Rattle.lang_tokens.specs.LineFaults.{AreLiterals}
use Rattle.lang_tokens.specs.declared.faults.LineFault.{LineFault}
use Rattle.lang_tokens.specs.declared.faults.LineFault.TheVariants as faults
use Rattle.lang_tokens.proofs.LiteralTokens.{line_literals}
use Rattle.lang_order.specs.declared.Place.{Place}
use Rattle.lang_order.specs.declared.Place.TheVariants as places
use Rattle.lang_order.specs.Statements.{Statement, first_word, Numbered, is_second}
use Rattle.lang_order.specs.Order.{next}
use Rattle.lang_order.specs.Building.{trees_of}
use Rattle.lang_order.specs.Adding.{add}
use Rattle.lang_order.specs.LineLimits.{Counts, none_yet, count, counts_from, are_few}
use Rattle.lang_order.specs.ByLines.{text_end}
use Rattle.lang_order.specs.Bodies.{IsBodyBehind, BodyKeeps, IsFaultSo}
use Rattle.lang_order.specs.Beginnings.{IsOneLine, EndsText}
use Rattle.lang_order.specs.FaultsByLines.{AreReadLines, marks, StandIn, IsReadTo}
use Rattle.lang_order.proofs.AddLemmas.{one_more_line}
use Rattle.lang_order.proofs.FirstFaults.{spelling_by_lines}
use Rattle.lang_order.proofs.LineTokens.{line_is}
use Rattle.lang_order.proofs.ReadLines.{none_read}
use Rattle.lang_order.proofs.WordFaults.{fault_of_order, fault_of_version, fault_of_count, fault_of_body}
use Rattle.lang_lines.specs.Lines.{IsRead, IsBodyFault}
use Rattle.lang_texts.specs.declared.texts.State.{State}
use Rattle.lang_texts.specs.declared.texts.LangFault.{LangFault}
use Rattle.lang_texts.specs.declared.texts.LangFault.TheVariants.{Syntax, Limit, Memory}
use Rattle.lang_texts.specs.Growing.{trees_in}
use Rattle.lang_texts.specs.Reading.{counts_of, version_behind, IsCount, IsWordFault, AreLineTokens, Holds, located, IsReadUpTo, IsTextFault, GoesOn, FailsAt, IsNoMore, Tells}
use Rattle.lang_texts.proofs.LineHeads.{ends_text, BeginsInside, line_begins}
use Rattle.lang_texts.proofs.MoreLines.{few_read, line_read, More, more_lines}

-- ---- the tokens of a line

record Stands (n : ℕ) (word : Placed) (ts : List Placed) : Type 0 where
  line : word.line ≡ n
  behind : StandIn n ts
  one : IsOneLine (marks (word ∷ ts))
  inside : ends_text word.kind ≡ false

stands : (n : ℕ) (word : Placed) (ts : List Placed) → AreLineTokens n (word ∷ ts) → Stands n word ts
stands n word ts (bytes, e) =
    let is = subst (λ z. StandIn n z × IsOneLine (marks z)) (sym e) (line_is n bytes) in
    record { line = is.0.0; behind = is.0.1; one = is.1; inside = subst BeginsInside (sym e) (line_begins n bytes) }

-- the literals behind the first word
pub literals_behind : (n : ℕ) (word : Placed) (ts : List Placed) → AreLineTokens n (word ∷ ts) → AreLiterals (marks ts)
literals_behind n word ts (bytes, e) =
    let h : AreLiterals (marks (word ∷ ts)) = subst (λ z. AreLiterals (marks z)) (sym e) (line_literals n bytes) in
    h.1

-- what was read, seen from the first token behind it
at_word : (text : List ℕ) (rest : List Placed) (s : State) (n : ℕ) (word : Placed) (ts : List Placed) → Stands n word ts →
    (h : IsReadUpTo text ((word ∷ ts) ++ rest) s) → IsReadTo text h.says s.place word ts
at_word text rest s n word ts st h = record {
  whole = h.whole;
  rest = rest;
  parts = h.parts ∙ sym (append_assoc h.whole (word ∷ ts) rest);
  read = h.read;
  stand = subst (λ z. StandIn z ts) (sym st.line) st.behind;
  one = st.one;
}

-- ---- faults

not_end : (p : Place) (word : Placed) → ends_text word.kind ≡ false → EndsText p (mark word ∷ []) → ⊥
not_end p word e (at, f) = apart (sym (ap (λ m. ends_text m.kind) (head_is (mark word) (the kinds.EndText) [] [] f)) ∙ e)

of_word : (text : List ℕ) (rest : List Placed) (s : State) (n : ℕ) (word : Placed) (ts : List Placed) (e : LangFault) → Stands n word ts → IsWordFault s word e →
    IsReadUpTo text ((word ∷ ts) ++ rest) s → IsTextFault text e
of_word text rest s n word ts (Syntax line column) st (inl d, l, k) h =
    rw (l, k) (fault_of_order text h.says s.place word ts (at_word text rest s n word ts st h) d (not_end s.place word st.inside))
of_word text rest s n word ts (Syntax line column) st (inr (v, o), l, k) h =
    rw (l, k) (fault_of_version text h.says s.place word ts (at_word text rest s n word ts st h) (h.second ∙ v) o)
of_word text rest s n word ts (Limit line which) st ((q, d), many, l) h =
    rw l (fault_of_count text h.says s.place q word ts which (at_word text rest s n word ts st h) d (ap (λ z. are_few which (count z word.kind)) h.counts ∙ many))
of_word text rest s n word ts Memory st w h = tt

-- the first word of a line has the fault
pub word_fails : (s : State) (n : ℕ) (word : Placed) (ts : List Placed) (e : LangFault) → AreLineTokens n (word ∷ ts) → IsWordFault s word e → FailsAt (word ∷ ts) s e
word_fails s n word ts e line w text rest h = of_word text rest s n word ts e (stands n word ts line) w h

few_with : (text : List ℕ) (rest : List Placed) (s : State) (word : Kind) (d : Counts) → IsCount (counts_of s.counts) word d → (h : IsReadUpTo text rest s) → (w : Which) →
    IsTrue (are_few w (count (counts_from none_yet h.says) word))
few_with text rest s word d c h w =
    subst (λ z. IsTrue (are_few w (count z word))) (sym h.counts)
    (c.1 (λ o. subst (λ z. IsTrue (are_few o z)) h.counts (few_read (lined h.whole) h.says s.place h.read o)) w)

of_body : (text : List ℕ) (rest : List Placed) (s : State) (n : ℕ) (word : Placed) (ts : List Placed) (q : Place) (d : Counts) (fault : Fault) → Stands n word ts →
    next s.place word.kind ≡ Some q → IsCount (counts_of s.counts) word.kind d → IsFaultSo (IsBodyBehind s.second word.kind) BodyKeeps ts fault →
    IsReadUpTo text ((word ∷ ts) ++ rest) s → IsFirstFault text fault
of_body text rest s n word ts q d fault st leads c f h =
    fault_of_body text h.says s.place q word ts fault (at_word text rest s n word ts st h) leads (few_with text ((word ∷ ts) ++ rest) s word.kind d c h)
    (subst (λ v. IsFaultSo (IsBodyBehind v word.kind) BodyKeeps ts fault) (sym h.second) f)

-- what stands behind the first word of a line has the fault
pub body_fails : (s : State) (n : ℕ) (word : Placed) (ts : List Placed) (q : Place) (d : Counts) (e : LineFault) → AreLineTokens n (word ∷ ts) →
    next s.place word.kind ≡ Some q → IsCount (counts_of s.counts) word.kind d → IsBodyFault s.second n word.kind ts e → FailsAt (word ∷ ts) s (located n e)
body_fails s n word ts q d (faults.Syntax column) line leads c f text rest h = of_body text rest s n word ts q d (SyntaxAt n column) (stands n word ts line) leads c f h
body_fails s n word ts q d (faults.Limit which) line leads c f text rest h = of_body text rest s n word ts q d (LimitAt n which) (stands n word ts line) leads c f h
body_fails s n word ts q d faults.Memory line leads c f text rest h = tt

-- ---- one more line

pub line_goes_on : (s t : State) (n : ℕ) (word : Placed) (ts : List Placed) (q : Place) (d : Counts) (said : Statement) → AreLineTokens n (word ∷ ts) →
    next s.place word.kind ≡ Some q → IsCount (counts_of s.counts) word.kind d → IsRead s.second word.kind (marks ts) said → Holds n said q d s t →
    GoesOn (word ∷ ts) s t
line_goes_on s t n word ts q d said line leads c r k text rest h =
    let st = stands n word ts line in
    let word_is : word.kind ≡ first_word said = sym r.2.0 in
    let leads_so : next s.place (first_word said) ≡ Some q = ap (next s.place) (sym word_is) ∙ leads in
    let few = λ (w : Which). subst (λ z. IsTrue (are_few w (count (counts_from none_yet h.says) z))) word_is (few_with text ((word ∷ ts) ++ rest) s word.kind d c h w) in
    let r_so : IsRead (is_second h.says) word.kind (marks ts) said = subst (λ v. IsRead v word.kind (marks ts) said) (sym h.second) r in
    let one : Numbered = record { line = n; says = said } in
    let more = more_lines (lined h.whole) h.says s.place q (lined (word ∷ ts)) one h.read
    (line_read (is_second h.says) s.place q n word ts said leads st.line st.behind r_so) leads_so few in
    record {
      whole = h.whole ++ word ∷ ts;
      says = h.says ++ one ∷ [];
      parts = h.parts ∙ sym (append_assoc h.whole (word ∷ ts) rest);
      read =
          subst (λ z. AreReadLines z (h.says ++ one ∷ []) t.place) (sym (map-append (λ u. record { line = u.line; mark = mark u }) h.whole (word ∷ ts)))
          (subst (λ z. AreReadLines (lined h.whole ++ lined (word ∷ ts)) (h.says ++ one ∷ []) z) (sym k.place) more.read);
      second = more.second ∙ ap (λ v. version_behind v said) h.second ∙ sym k.second;
      counts = more.counts ∙ ap (count (counts_from none_yet h.says)) (sym word_is) ∙ ap (λ z. count z word.kind) h.counts ∙ sym c.0 ∙ sym k.counts;
      trees = one_more_line h.says s.place q one h.read.order leads_so ∙ ap (add n said) h.trees ∙ sym k.trees;
    }

-- ---- the end

no_next : (p : Place) → next p kinds.EndText ≡ None
no_next places.Start = refl
no_next p = refl

pub end_fails : (s : State) (n : ℕ) → (s.place ≡ places.End → ⊥) → FailsAt (end_of_text n ∷ []) s (Syntax n 1)
end_fails s n not_end text rest h =
    fault_of_order text h.says s.place (end_of_text n) [] (record {
      whole = h.whole;
      rest = rest;
      parts = h.parts ∙ sym (append_assoc h.whole (end_of_text n ∷ []) rest);
      read = h.read;
      stand = tt;
      one = tt;
    }) (no_next s.place) (λ e. not_end e.0)

pub end_spells : (s : State) (n : ℕ) → s.place ≡ places.End → (text : List ℕ) → IsReadUpTo text (end_of_text n ∷ []) s → IsSpelling text (trees_in s.trees)
end_spells s n e text h =
    subst (IsSpelling text) h.trees
    (spelling_by_lines text (lined h.whole) h.says n (subst (AreReadLines (lined h.whole) h.says) e h.read)
    (ap lined h.parts ∙ map-append (λ u. record { line = u.line; mark = mark u }) h.whole (end_of_text n ∷ [])))

-- ---- a text

-- what was read of a text, up to the line of this number
pub record SoFar (text rest : List ℕ) (n : ℕ) (s : State) : Type 0 where
  pub read : IsReadUpTo text (tokens_from n (lines_of rest)) s
  pub small : n + length rest ≤ length text + 1

-- before the first line
abbrev pub start : State
start = record { place = places.Start; second = false; counts = record { automata = 0; locs = 0; trans = 0 }; trees = None }

pub begin : (text : List ℕ) → SoFar text text 1 start
begin text = record {
  read = record { whole = []; says = []; parts = refl; read = none_read; second = refl; counts = refl; trees = refl };
  small = omega arith;
}

-- a line stands behind what was read
pub at_line : (text rest first behind : List ℕ) (n : ℕ) (s : State) → SoFar text rest n s → lines_of rest ≡ first ∷ lines_of behind →
    IsReadUpTo text (unless_bare (line_tokens n first) ++ tokens_from (n + 1) (lines_of behind)) s
at_line text rest first behind n s h e = subst (λ ls. IsReadUpTo text (tokens_from n ls) s) e h.read

pub go_on : (text rest first behind : List ℕ) (n : ℕ) (s t : State) → SoFar text rest n s → lines_of rest ≡ first ∷ lines_of behind → length behind < length rest →
    GoesOn (unless_bare (line_tokens n first)) s t → SoFar text behind (n + 1) t
go_on text rest first behind n s t h e shorter goes = record {
  read = goes text (tokens_from (n + 1) (lines_of behind)) (at_line text rest first behind n s h e);
  small = omega (arith, h.small, shorter);
}

pub at_end : (text rest : List ℕ) (n : ℕ) (s : State) → SoFar text rest n s → lines_of rest ≡ [] → IsReadUpTo text (end_of_text n ∷ []) s
at_end text rest n s h e = subst (λ ls. IsReadUpTo text (tokens_from n ls) s) e h.read

-- ---- what a caller is told

pub found : (text : List ℕ) (trees : List Tree) (others : List Tree) → IsSpelling text trees → IsSpelling text others → others ≡ trees
found text trees others h k = one_tree_list text others trees k h

pub no_more : (text : List ℕ) (trees : List Tree) (e : LangFault) → IsSpelling text trees → IsTextFault text e → IsNoMore e
no_more text trees (Syntax line column) h f = none_beside text trees (SyntaxAt line column) h f
no_more text trees (Limit line which) h f = none_beside text trees (LimitAt line which) h f
no_more text trees Memory h f = tt

pub tells : (text : List ℕ) (fault : Fault) (e : LangFault) → IsFirstFault text fault → IsTextFault text e → Tells fault e
tells text fault (Syntax line column) h f = one_first text fault (SyntaxAt line column) h f
tells text fault (Limit line which) h f = one_first text fault (LimitAt line which) h f
tells text fault Memory h f = tt
