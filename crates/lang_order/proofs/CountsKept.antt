-- Automata, locations and transitions, counted line by line and in the trees.
use Rattle.std.proofs.Common.{◌≡◌, ℕ, suc, ◌+◌, true, List, [], ◌∷◌, length, refl, ap, ◌∙◌, arith}
use Rattle.std.specs.Bool.{⊤}
use Rattle.std.specs.Prelude.{nat_le, IsTrue}
use Rattle.std.proofs.lemmas.Bool.{leb-true, le-leb}
use Rattle.lang_specs.specs.declared.Which.{Which}
use Rattle.lang_specs.specs.declared.Which.TheVariants.{Automata, Locations, Transitions}
use Rattle.lang_specs.specs.Limits.{has_at_most}
use Rattle.lang_specs.proofs.EachLemmas.{Each}
use Rattle.lang_order.specs.Statements.{Statement, Automaton, Loc, Trans, first_word, Numbered}
use Rattle.lang_order.specs.Building.{Parts, put, parts_of}
use Rattle.lang_order.specs.LineLimits.{Counts, count, are_few, StayFew}

-- with such counts before, the parts keep to the limit
abbrev pub CountIs : Which → Counts → Parts → Type 0
CountIs Automata c x = nat_le (c.automata + length x.trees) 16 ≡ true
CountIs Locations c x = (nat_le (c.locs + length x.locs) 32 ≡ true) × Each (λ t. has_at_most 32 t.locs ≡ true) x.trees
CountIs Transitions c x = (nat_le (c.trans + length x.trans) 128 ≡ true) × Each (λ t. has_at_most 128 t.trans ≡ true) x.trees
CountIs w c x = ⊤

with_more : (a n m : ℕ) → nat_le (a + 1 + n) m ≡ true → nat_le (a + suc n) m ≡ true
with_more a n m h = let e : a + suc n ≡ a + 1 + n = omega arith in ap (λ z. nat_le z m) e ∙ h

less_more : (a n m : ℕ) → nat_le (a + suc n) m ≡ true → nat_le (a + 1 + n) m ≡ true
less_more a n m h = let e : a + 1 + n ≡ a + suc n = omega arith in ap (λ z. nat_le z m) e ∙ h

with_none : (a m : ℕ) → nat_le a m ≡ true → nat_le (a + 0) m ≡ true
with_none a m h = let e : a + 0 ≡ a = omega arith in ap (λ z. nat_le z m) e ∙ h

none_before : (n m : ℕ) → nat_le (0 + n) m ≡ true → nat_le n m ≡ true
none_before n m h = let e : n ≡ 0 + n = omega arith in ap (λ z. nat_le z m) e ∙ h

before_none : (n m : ℕ) → nat_le n m ≡ true → nat_le (0 + n) m ≡ true
before_none n m h = let e : 0 + n ≡ n = omega arith in ap (λ z. nat_le z m) e ∙ h

front_few : (a n m : ℕ) → nat_le (a + n) m ≡ true → nat_le a m ≡ true
front_few a n m h = let most = leb-true (a + n) m h in le-leb a m (omega arith)

-- ---- from lines to trees

put_on : (w : Which) (n : ℕ) (s : Statement) (x : Parts) (c : Counts) → IsTrue (are_few w c) → CountIs w (count c (first_word s)) x → CountIs w c (put n s x)
put_on Automata n (Automaton name) x c f h = with_more c.automata (length x.trees) 16 h
put_on Automata n s x c f h = h
put_on Locations n (Automaton name) x c f h = (with_none c.locs 32 f, (none_before (length x.locs) 32 h.0, h.1))
put_on Locations n (Loc name u) x c f h = (with_more c.locs (length x.locs) 32 h.0, h.1)
put_on Locations n s x c f h = h
put_on Transitions n (Automaton name) x c f h = (with_none c.trans 128 f, (none_before (length x.trans) 128 h.0, h.1))
put_on Transitions n (Trans a b l g i) x c f h = (with_more c.trans (length x.trans) 128 h.0, h.1)
put_on Transitions n s x c f h = h
put_on w n s x c f h = tt

at_last : (w : Which) (c : Counts) → IsTrue (are_few w c) → CountIs w c (parts_of [])
at_last Automata c f = with_none c.automata 16 f
at_last Locations c f = (with_none c.locs 32 f, tt)
at_last Transitions c f = (with_none c.trans 128 f, tt)
at_last w c f = tt

pub count_of_lines : (w : Which) (c : Counts) (ss : List Numbered) → IsTrue (are_few w c) → StayFew w c ss → CountIs w c (parts_of ss)
count_of_lines w c [] f h = at_last w c f
count_of_lines w c (s ∷ ss) f h =
    put_on w s.line s.says (parts_of ss) c f (count_of_lines w (count c (first_word s.says)) ss h.0 h.1)

-- ---- from trees to lines

take_off : (w : Which) (n : ℕ) (s : Statement) (x : Parts) (c : Counts) → CountIs w c (put n s x) → CountIs w (count c (first_word s)) x
take_off Automata n (Automaton name) x c h = less_more c.automata (length x.trees) 16 h
take_off Automata n s x c h = h
take_off Locations n (Automaton name) x c h = (before_none (length x.locs) 32 h.1.0, h.1.1)
take_off Locations n (Loc name u) x c h = (less_more c.locs (length x.locs) 32 h.0, h.1)
take_off Locations n s x c h = h
take_off Transitions n (Automaton name) x c h = (before_none (length x.trans) 128 h.1.0, h.1.1)
take_off Transitions n (Trans a b l g i) x c h = (less_more c.trans (length x.trans) 128 h.0, h.1)
take_off Transitions n s x c h = h
take_off w n s x c h = tt

few_of : (w : Which) (c : Counts) (x : Parts) → CountIs w c x → IsTrue (are_few w c)
few_of Automata c x h = front_few c.automata (length x.trees) 16 h
few_of Locations c x h = front_few c.locs (length x.locs) 32 h.0
few_of Transitions c x h = front_few c.trans (length x.trans) 128 h.0
few_of w c x h = refl

pub lines_of_count : (w : Which) (c : Counts) (ss : List Numbered) → CountIs w c (parts_of ss) → StayFew w c ss
lines_of_count w c [] h = tt
lines_of_count w c (s ∷ ss) h =
    let d = count c (first_word s.says) in
    let off = take_off w s.line s.says (parts_of ss) c h in (few_of w d (parts_of ss) off, lines_of_count w d ss off)
