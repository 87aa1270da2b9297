-- A text has at most one first fault, and none where it spells trees.
use Rattle.std.proofs.Common.{◌≡◌, inl, inr, ℕ, ◌≤◌, ◌==◌, if◌then◌else◌, List, [], ◌∷◌, ◌++◌, refl, sym, ap, ◌∙◌, subst, append_assoc, arith}
use Rattle.std.proofs.lemmas.List.{map-append}
use Rattle.lang_specs.specs.declared.Which.{Which}
use Rattle.lang_specs.specs.declared.Which.TheVariants.{Automata, Variables, Locations, Transitions, Rows, Terms, NameBytes, Digits}
use Rattle.lang_specs.specs.Tokens.{Placed}
use Rattle.lang_specs.specs.Lines.{text_tokens}
use Rattle.lang_specs.specs.Marks.{Lined, mark, lined}
use Rattle.lang_specs.specs.Trees.{Tree}
use Rattle.lang_specs.specs.Grammar.{Spell}
use Rattle.lang_specs.specs.Limits.{Keeps, rank}
use Rattle.lang_specs.specs.FirstFault.{IsSpelling, IsViable, HasKept, HasKeptAll, Fault, SyntaxAt, LimitAt, IsFaultOf, IsFirstFault}
use Rattle.lang_specs.proofs.ListLemmas.{Begins, CutAlike, cut_alike}

-- ---- ranks

named : ℕ → Which
named n =
    if n == 0 then Automata
    else if n == 1 then Variables
    else if n == 2 then Locations
    else if n == 3 then Transitions
    else if n == 4 then Rows
    else if n == 5 then Terms
    else if n == 6 then NameBytes
    else Digits

named_rank : (which : Which) → named (rank which) ≡ which
unfolding named
named_rank Automata = refl
named_rank Variables = refl
named_rank Locations = refl
named_rank Transitions = refl
named_rank Rows = refl
named_rank Terms = refl
named_rank NameBytes = refl
named_rank Digits = refl

-- limits of one rank are one
one_of_rank : (v w : Which) → rank v ≤ rank w → rank w ≤ rank v → v ≡ w
one_of_rank v w h k = let same : rank v ≡ rank w = omega arith in sym (named_rank v) ∙ ap named same ∙ named_rank w

-- ---- beginnings

-- what begins a viable list is viable
pub viable_front : (front rest : List Lined) → IsViable (front ++ rest) → IsViable front
viable_front front rest v = (rest ++ v.0, v.1, subst (λ ls. Spell ls v.1) (append_assoc front rest v.0) v.2)

lined_append : (ts us : List Placed) → lined (ts ++ us) ≡ lined ts ++ lined us
lined_append ts us = map-append (λ t. record { line = t.line; mark = mark t }) ts us

-- the marks of a token and of what stands before it begin those of the whole
lined_parts : (front : List Placed) (token : Placed) (rest whole : List Placed) → whole ≡ front ++ token ∷ rest →
    lined whole ≡ lined (front ++ token ∷ []) ++ lined rest
lined_parts front token rest whole e =
    ap lined (e ∙ sym (append_assoc front (token ∷ []) rest)) ∙ lined_append (front ++ token ∷ []) rest

-- ---- faults

-- tokens that go on to a text, and have passed no limit, are no fault
none_wrong : (ls : List Lined) (t : Placed) (f : Fault) → IsViable ls → ((which : Which) → HasKept which ls) → IsFaultOf ls t f → ⊥
none_wrong ls t (SyntaxAt line column) v k wrong = wrong.0 v
none_wrong ls t (LimitAt line which) v k wrong = wrong.1 (k which)

-- at one token there is one fault
one_fault : (ls : List Lined) (t : Placed) (f g : Fault) → IsFaultOf ls t f → IsFaultOf ls t g → f ≡ g
one_fault ls t (SyntaxAt a b) (SyntaxAt c d) h k =
    let lines : a ≡ c = h.1 ∙ sym k.1 in
    let columns : b ≡ d = h.2 ∙ sym k.2 in
    cc
one_fault ls t (SyntaxAt a b) (LimitAt c w) h k = absurd (h.0 k.0)
one_fault ls t (LimitAt a v) (SyntaxAt c d) h k = absurd (k.0 h.0)
one_fault ls t (LimitAt a v) (LimitAt c w) h k =
    let same = one_of_rank v w (h.2 w k.1) (k.2 v h.1) in
    let lines : a ≡ c = h.3 ∙ sym k.3 in
    cc

one_fault_at : (p q : List Placed) (t u : Placed) (f g : Fault) → p ≡ q → t ≡ u → IsFaultOf (lined (p ++ t ∷ [])) t f →
    IsFaultOf (lined (q ++ u ∷ [])) u g → f ≡ g
one_fault_at p q t u f g e d h k =
    let there = subst (λ x. IsFaultOf (lined (x ++ t ∷ [])) t f) e h in
    one_fault (lined (q ++ u ∷ [])) u f g (subst (λ x. IsFaultOf (lined (q ++ x ∷ [])) x f) d there) k

-- no fault stands before another that is a first one
none_before : (front : List Placed) (t : Placed) (f : Fault) (later : List Placed) → IsFaultOf (lined (front ++ t ∷ [])) t f →
    Begins (front ++ t ∷ []) later → IsViable (lined later) → HasKeptAll (lined later) → ⊥
none_before front t f later wrong b v k =
    let parts : lined later ≡ lined (front ++ t ∷ []) ++ lined b.more = ap lined b.parts ∙ lined_append (front ++ t ∷ []) b.more in
    none_wrong (lined (front ++ t ∷ [])) t f (viable_front (lined (front ++ t ∷ [])) (lined b.more) (subst IsViable parts v))
    (λ which. k (lined (front ++ t ∷ [])) (lined b.more) which parts) wrong

by_cut : (text : List ℕ) (f g : Fault) (h : IsFirstFault text f) (k : IsFirstFault text g) → CutAlike h.front k.front h.token k.token → f ≡ g
by_cut text f g h k (inl e) = one_fault_at h.front k.front h.token k.token f g e.0 e.1 h.wrong k.wrong
by_cut text f g h k (inr (inl b)) = absurd (none_before h.front h.token f k.front h.wrong b k.viable k.kept)
by_cut text f g h k (inr (inr b)) = absurd (none_before k.front k.token g h.front k.wrong b h.viable h.kept)

pub one_first : (text : List ℕ) (f g : Fault) → IsFirstFault text f → IsFirstFault text g → f ≡ g
one_first text f g h k = by_cut text f g h k (cut_alike h.front k.front h.token k.token h.rest k.rest (sym h.parts ∙ k.parts))

-- ---- spellings

pub none_beside : (text : List ℕ) (trees : List Tree) (f : Fault) → IsSpelling text trees → IsFirstFault text f → ⊥
none_beside text trees f s h =
    let parts = lined_parts h.front h.token h.rest (text_tokens text) h.parts in
    let spelled = subst (λ ls. Spell ls trees) parts s.spelled in
    none_wrong (lined (h.front ++ h.token ∷ [])) h.token f (lined h.rest, trees, spelled)
    (λ which. inl (lined h.rest, trees, spelled, subst (λ ls. Keeps which ls trees) parts (s.kept which))) h.wrong
