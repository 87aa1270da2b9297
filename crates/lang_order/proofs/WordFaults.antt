-- The first fault of a text, by the word that its line begins with.
use Rattle.std.proofs.Common.{◌≡◌, ◌⊎◌, inl, inr, ℕ, ◌≤◌, Bool, true, false, List, [], ◌∷◌, ◌++◌, Some, None, refl, sym, ap, ◌∙◌, subst, append_assoc, append-nil, arith}
use Rattle.std.specs.Prelude.{IsTrue}
use Rattle.std.proofs.lemmas.List.{map-append}
use Rattle.lang_specs.specs.declared.Which.{Which}
use Rattle.lang_specs.specs.declared.Which.TheVariants.{Automata, Variables, Locations, Transitions, Rows, Terms, NameBytes, Digits}
use Rattle.lang_specs.specs.declared.Kind.{Kind}
use Rattle.lang_specs.specs.declared.Kind.TheVariants as kinds
use Rattle.lang_specs.specs.Tokens.{Placed}
use Rattle.lang_specs.specs.Marks.{Mark, mark, the, a_name}
use Rattle.lang_specs.specs.Limits.{rank}
use Rattle.lang_specs.specs.FirstFault.{Fault, SyntaxAt, LimitAt, IsFirstFault}
use Rattle.lang_specs.proofs.ListLemmas.{head_is, tail_is}
use Rattle.lang_specs.proofs.SplitLemmas.{apart}
use Rattle.lang_order.specs.declared.Place.{Place}
use Rattle.lang_order.specs.Statements.{Statement, Automaton, Obs, Loc, Trans, first_word, IsBody, Numbered, is_second}
use Rattle.lang_order.specs.Order.{next}
use Rattle.lang_order.specs.LineLimits.{Counts, none_yet, count, counts_from, are_few, StayFew}
use Rattle.lang_order.specs.Beginnings.{IsOneLine, IsViableLine, EndsText, MayFollow, LineHasKept}
use Rattle.lang_order.specs.FaultsByLines.{marks, StandIn, IsFaultOfLine, IsReadTo}
use Rattle.lang_order.specs.Bodies.{IsBodyBehind, BodyKeeps, HasKeptSo, IsWrongSo, IsFaultSo}
use Rattle.lang_order.proofs.ToGrammar.{none_some}
use Rattle.lang_order.proofs.Completions.{x}
use Rattle.lang_order.proofs.Kept.{few_none, one_line_front}
use Rattle.lang_order.proofs.FirstFaults.{first_by_lines}
use Rattle.lang_order.proofs.FirstWords.{word_mark}
use Rattle.lang_order.proofs.BodyLemmas.{word_off, word_off_kept}

-- ---- the first token of a line

nothing_before : (xs ys : List Mark) → [] ≡ xs ++ ys → xs ≡ []
nothing_before [] ys e = refl
nothing_before (x ∷ xs) ys e = absurd (let b : ⊥ = cc in b)

-- a fault at the first token
at_first : (text : List ℕ) (says : List Numbered) (place : Place) (word : Placed) (line : List Placed) (fault : Fault) → IsReadTo text says place word line →
    IsFaultOfLine (is_second says) place (counts_from none_yet says) (mark word ∷ []) word fault → IsFirstFault text fault
at_first text says place word line fault h wrong = first_by_lines text fault (record {
  whole = h.whole;
  says = says;
  place = place;
  read = h.read;
  front = [];
  token = word;
  rest = line ++ h.rest;
  parts =
      h.parts ∙ append_assoc h.whole (word ∷ line) h.rest
      ∙ ap (λ z. z ++ (word ∷ line ++ h.rest)) (sym (append-nil h.whole));
  line = tt;
  one = tt;
  viable = inl refl;
  kept = λ some others which e. inl (inl (nothing_before some others e));
  wrong = wrong;
})

no_line : (v : Bool) (p : Place) (t : Placed) → next p t.kind ≡ None → (EndsText p (mark t ∷ []) → ⊥) → MayFollow v p (mark t ∷ []) → ⊥
no_line v p t d not_end (inl e) = let b : ⊥ = cc in b
no_line v p t d not_end (inr (inl e)) = not_end e
no_line v p t d not_end (inr (inr (tail, s, (inside, e, ((body, f, b), (q, g)))))) =
    let whole : mark t ∷ tail ≡ the (first_word s) ∷ (body ++ the kinds.EndLine ∷ []) = e ∙ ap (λ z. z ++ the kinds.EndLine ∷ []) f in
    let word : t.kind ≡ first_word s = ap (λ m. m.kind) (head_is (mark t) (the (first_word s)) tail (body ++ the kinds.EndLine ∷ []) whole) in
    none_some q (sym d ∙ ap (next p) word ∙ g)

pub fault_of_order : (text : List ℕ) (says : List Numbered) (place : Place) (word : Placed) (line : List Placed) → IsReadTo text says place word line →
    next place word.kind ≡ None → (EndsText place (mark word ∷ []) → ⊥) → IsFirstFault text (SyntaxAt word.line word.column)
fault_of_order text says place word line h d not_end =
    at_first text says place word line (SyntaxAt word.line word.column) h (no_line (is_second says) place word d not_end, refl, refl)

is_obs : Kind → Bool
is_obs kinds.Obs = true
is_obs k = false

no_obs : (s : Statement) (body : List Mark) → kinds.Obs ≡ first_word s → IsBody false body s → ⊥
unfolding is_obs
no_obs (Obs bounds) body e b = let c : false ≡ true = b.0 in apart (sym c)
no_obs s body e b = apart (ap is_obs e)

no_obs_line : (p : Place) (t : Placed) → t.kind ≡ kinds.Obs → MayFollow false p (mark t ∷ []) → ⊥
unfolding is_obs
no_obs_line p t k (inl e) = let b : ⊥ = cc in b
no_obs_line p t k (inr (inl (e, f))) = apart (sym (ap is_obs k) ∙ ap (λ m. is_obs m.kind) (head_is (mark t) (the kinds.EndText) [] [] f))
no_obs_line p t k (inr (inr (tail, s, (inside, e, ((body, f, b), g))))) =
    let whole : mark t ∷ tail ≡ the (first_word s) ∷ (body ++ the kinds.EndLine ∷ []) = e ∙ ap (λ z. z ++ the kinds.EndLine ∷ []) f in
    no_obs s body (sym k ∙ ap (λ m. m.kind) (head_is (mark t) (the (first_word s)) tail (body ++ the kinds.EndLine ∷ []) whole)) b

pub fault_of_version : (text : List ℕ) (says : List Numbered) (place : Place) (word : Placed) (line : List Placed) → IsReadTo text says place word line →
    is_second says ≡ false → word.kind ≡ kinds.Obs → IsFirstFault text (SyntaxAt word.line word.column)
fault_of_version text says place word line h first k =
    at_first text says place word line (SyntaxAt word.line word.column) h
    (λ i. no_obs_line place word k (subst (λ z. MayFollow z place (mark word ∷ [])) first i), refl, refl)

-- ---- one too many

few_now : (w : Which) (c : Counts) (ss : List Numbered) → IsTrue (are_few w c) → StayFew w c ss → IsTrue (are_few w (counts_from c ss))
few_now w c [] f h = f
few_now w c (s ∷ ss) f h = few_now w (count c (first_word s.says)) ss h.0 h.1

abbrev Body : Bool → Kind → Which → List Mark → Type 0
Body v k w ms = HasKeptSo (IsBodyBehind v k) (BodyKeeps w) ms

-- where a word is one too many some line begins with it, and limits that are told before are kept
record Passing (v : Bool) (k : Kind) (w : Which) (c : Counts) : Type 0 where
  viable : IsViableLine (IsBodyBehind v k) []
  others : (o : Which) → (rank w ≤ rank o) ⊎ (IsTrue (are_few o (count c k)) × Body v k o [])

short_loc : (v : Bool) (o : Which) → BodyKeeps o (a_name x ∷ []) (Loc x false) → Body v kinds.Loc o []
short_loc v o h = inl (a_name x ∷ the kinds.EndLine ∷ [], Loc x false, (a_name x ∷ [], refl, ((refl, refl), h)))

abbrev jump : List Mark
jump = a_name x ∷ the kinds.Arrow ∷ a_name x ∷ the kinds.As ∷ a_name x ∷ []

short_trans : (v : Bool) (o : Which) → BodyKeeps o jump (Trans x x x [] []) → Body v kinds.Trans o []
short_trans v o h = inl (jump ++ the kinds.EndLine ∷ [], Trans x x x [] [], (jump, refl, ((refl, ([], [], refl, inl (refl, refl), refl)), h)))

loc_others : (v : Bool) (c : Counts) → ((o : Which) → IsTrue (are_few o c)) → (o : Which) →
    (rank Locations ≤ rank o) ⊎ (IsTrue (are_few o (count c kinds.Loc)) × Body v kinds.Loc o [])
loc_others v c f Automata = inr (f Automata, short_loc v Automata refl)
loc_others v c f Variables = inr (refl, short_loc v Variables refl)
loc_others v c f Locations = inl (omega arith)
loc_others v c f Transitions = inl (omega arith)
loc_others v c f Rows = inl (omega arith)
loc_others v c f Terms = inl (omega arith)
loc_others v c f NameBytes = inl (omega arith)
loc_others v c f Digits = inl (omega arith)

trans_others : (v : Bool) (c : Counts) → ((o : Which) → IsTrue (are_few o c)) → (o : Which) →
    (rank Transitions ≤ rank o) ⊎ (IsTrue (are_few o (count c kinds.Trans)) × Body v kinds.Trans o [])
trans_others v c f Automata = inr (f Automata, short_trans v Automata refl)
trans_others v c f Variables = inr (refl, short_trans v Variables refl)
trans_others v c f Locations = inr (f Locations, short_trans v Locations refl)
trans_others v c f Transitions = inl (omega arith)
trans_others v c f Rows = inl (omega arith)
trans_others v c f Terms = inl (omega arith)
trans_others v c f NameBytes = inl (omega arith)
trans_others v c f Digits = inl (omega arith)

not_both : {A : Type 0} (b : Bool) → IsTrue b → b ≡ false → A
not_both b t f = apart (sym t ∙ f)

passing : (v : Bool) (k : Kind) (w : Which) (c : Counts) → ((o : Which) → IsTrue (are_few o c)) → are_few w (count c k) ≡ false → Passing v k w c
passing v kinds.Automaton Automata c f e = record {
  viable = (a_name x ∷ the kinds.EndLine ∷ [], Automaton x, (a_name x ∷ [], refl, (refl, refl)));
  others = λ o. inl (omega arith);
}
passing v kinds.Automaton w c f e = not_both true refl e
passing v kinds.Loc Locations c f e = record {
  viable = (a_name x ∷ the kinds.EndLine ∷ [], Loc x false, (a_name x ∷ [], refl, (refl, refl)));
  others = loc_others v c f;
}
passing v kinds.Loc w c f e = not_both (are_few w (count c kinds.Loc)) (f w) e
passing v kinds.Trans Transitions c f e = record {
  viable = (jump ++ the kinds.EndLine ∷ [], Trans x x x [] [], (jump, refl, (refl, ([], [], refl, inl (refl, refl), refl))));
  others = trans_others v c f;
}
passing v kinds.Trans w c f e = not_both (are_few w (count c kinds.Trans)) (f w) e
passing v k w c f e = not_both (are_few w c) (f w) e

pub fault_of_count : (text : List ℕ) (says : List Numbered) (place q : Place) (word : Placed) (line : List Placed) (which : Which) →
    IsReadTo text says place word line → next place word.kind ≡ Some q → are_few which (count (counts_from none_yet says) word.kind) ≡ false →
    IsFirstFault text (LimitAt word.line which)
fault_of_count text says place q word line which h d many =
    let v = is_second says in
    let k = word.kind in
    let c = counts_from none_yet says in
    let few = λ (o : Which). few_now o none_yet says (few_none o) (h.read.few o) in
    let pass = passing v k which c few many in
    let kept = λ (o : Which). word_off_kept v place q k d o c [] in
    let law = word_off v place q k d [] in
    let wrong : IsFaultOfLine v place c (the k ∷ []) word (LimitAt word.line which) = (
      law.1 pass.viable,
      λ i. not_both (are_few which (count c k)) ((kept which).0 i).0 many,
      λ o none. elim (pass.others o) [ inl r ↦ r | inr i ↦ absurd (none ((kept o).1 i)) ],
      refl,
    ) in
    at_first text says place word line (LimitAt word.line which) h
    (subst (λ z. IsFaultOfLine v place c (z ∷ []) word (LimitAt word.line which)) (sym (word_mark place q word d)) wrong)

-- ---- behind the first token

stand_front : (n : ℕ) (front rest : List Placed) → StandIn n (front ++ rest) → StandIn n front
stand_front n [] rest h = tt
stand_front n (t ∷ front) rest h = (h.0, stand_front n front rest h.1)

stand_token : (n : ℕ) (front : List Placed) (t : Placed) (rest : List Placed) → StandIn n (front ++ t ∷ rest) → t.line ≡ n
stand_token n [] t rest h = h.0
stand_token n (u ∷ front) t rest h = stand_token n front t rest h.1

module _ (v : Bool) (p q : Place) (k : Kind) (d : next p k ≡ Some q) (c : Counts) (few : (w : Which) → IsTrue (are_few w (count c k))) where
  kept_behind : (ms : List Mark) → ((some others : List Mark) (w : Which) → ms ≡ some ++ others → Body v k w some) → (some others : List Mark) (w : Which) →
      the k ∷ ms ≡ some ++ others → LineHasKept w v p c some
  kept_behind ms h [] others w e = inl (inl refl)
  kept_behind ms h (m ∷ some) others w e =
      let law = word_off_kept v p q k d w c some in
      subst (λ z. LineHasKept w v p c (z ∷ some)) (head_is (the k) m ms (some ++ others) e)
      (law.1 (few w, h some others w (tail_is (the k) m ms (some ++ others) e)))

  wrong_behind : (ms : List Mark) (t : Placed) (fault : Fault) → IsWrongSo (IsBodyBehind v k) BodyKeeps ms t fault → IsFaultOfLine v p c (the k ∷ ms) t fault
  wrong_behind ms t (SyntaxAt line column) h = let law = word_off v p q k d ms in (λ i. h.0 (law.0 i), h.1, h.2)
  wrong_behind ms t (LimitAt line which) h =
      let law = word_off v p q k d ms in
      let kept = λ (w : Which). word_off_kept v p q k d w c ms in
      (law.1 h.0, λ i. h.1 ((kept which).0 i).1, λ o none. h.2 o (λ i. none ((kept o).1 (few o, i))), h.3)

pub fault_of_body : (text : List ℕ) (says : List Numbered) (place q : Place) (word : Placed) (line : List Placed) (fault : Fault) →
    IsReadTo text says place word line → next place word.kind ≡ Some q →
    ((which : Which) → IsTrue (are_few which (count (counts_from none_yet says) word.kind))) →
    IsFaultSo (IsBodyBehind (is_second says) word.kind) BodyKeeps line fault → IsFirstFault text fault
fault_of_body text says place q word line fault h d few f =
    let v = is_second says in
    let k = word.kind in
    let c = counts_from none_yet says in
    let says_word = word_mark place q word d in
    let stand : StandIn word.line (f.front ++ f.token ∷ f.rest) = subst (StandIn word.line) f.parts h.stand in
    let here : f.token.line ≡ word.line = stand_token word.line f.front f.token f.rest stand in
    let law = word_off v place q k d (marks f.front) in
    let tokens : marks (word ∷ line) ≡ marks ((word ∷ f.front) ++ f.token ∷ []) ++ marks f.rest =
    ap (λ z. marks (word ∷ z)) (f.parts ∙ sym (append_assoc f.front (f.token ∷ []) f.rest)) ∙ map-append mark ((word ∷ f.front) ++ f.token ∷ []) f.rest in
    first_by_lines text fault (record {
      whole = h.whole;
      says = says;
      place = place;
      read = h.read;
      front = word ∷ f.front;
      token = f.token;
      rest = f.rest ++ h.rest;
      parts =
          h.parts ∙ ap (λ z. h.whole ++ (word ∷ z) ++ h.rest) f.parts
          ∙ ap (λ z. z ++ h.rest) (sym (append_assoc h.whole (word ∷ f.front) (f.token ∷ f.rest)))
          ∙ append_assoc (h.whole ++ word ∷ f.front) (f.token ∷ f.rest) h.rest;
      line = (sym here, subst (λ z. StandIn z f.front) (sym here) (stand_front word.line f.front (f.token ∷ f.rest) stand));
      one = one_line_front (marks ((word ∷ f.front) ++ f.token ∷ [])) (marks f.rest) (subst IsOneLine tokens h.one);
      viable = subst (λ z. MayFollow v place (z ∷ marks f.front)) (sym says_word) (law.1 f.viable);
      kept = λ some others w e.
          kept_behind v place q k d c few (marks f.front) f.kept some others w (ap (λ z. z ∷ marks f.front) (sym says_word) ∙ e);
      wrong = subst (λ z. IsFaultOfLine v place c (z ∷ marks (f.front ++ f.token ∷ [])) f.token fault) (sym says_word)
          (wrong_behind v place q k d c few (marks (f.front ++ f.token ∷ [])) f.token fault f.wrong);
    })
