-- What a reader does, whatever the bytes that it dropped.
use Rattle.std.proofs.Common.{◌≡◌, ◌≢◌, ◌⊎◌, inl, inr, ℕ, zero, suc, ◌+◌, ◌<◌, ◌≤◌, List, [], ◌∷◌, ◌++◌, length, take, drop, slice_index, replicate, Bool, true, false, cond, ◌&&◌, nat_eq, Result, Ok, Err, IfOk, Option, refl, sym, ◌∙◌, ap, subst, append_assoc, arith}
use Rattle.std.proofs.lemmas.List.{append-nil, length-append, length-replicate}
use Rattle.std.proofs.lemmas.List.Elements.{All-nil, All-append, All-replicate}
use Rattle.std.proofs.lemmas.Bool.{eq-eqb, eqb-true}
use Rattle.report_specs.specs.Lines.{HasNoFeed, without_return, without_mark, unmarked}
use Rattle.log_reader.specs.declared.line.Line.{Line}
use Rattle.log_reader.specs.declared.line.Line.TheVariants.{Text, Long, End}
use Rattle.log_reader.specs.declared.reader.ReadFault.{ReadFault}
use Rattle.log_reader.specs.declared.reader.ReadFault.TheVariants as fault
use Rattle.log_reader.specs.Reading.{Reading, Stored, behind, emptied, IsOf, Moves, Gets, Fills, Gives, GivesFrom, GivesNext, Fails, FailsNext, Lacks, Shows, KeepsSource, HoldsNoFeed, HasNext, HasLine, HasLastLine}
use Rattle.log_reader.proofs.ByteLemmas.{gives_line, split_feed}
use Rattle.log_reader.proofs.FillLemmas.{Fills-nothing, Fills-then, gives_after}

-- ---- a reading that a reader stands for

zero_no_feed : (b : ℕ) → b ≡ 0 → b ≢ 10
zero_no_feed b z e = omega (arith, z, e)

-- bytes that may have been dropped
abbrev some_bytes : ℕ → List ℕ
some_bytes n = replicate n 0

pub stands_by : (seen k : Stored) → seen ≡ k → (seen.dropped ≡ 0) ⊎ (4101 ≤ seen.dropped) → (r : Reading) × IsOf k r
stands_by seen k e long =
    let front = some_bytes seen.dropped in
    subst (λ z. (r : Reading) × IsOf z r) e
    (behind front seen.reading, record { front = front; same = refl; size = length-replicate seen.dropped 0; no_feed = All-replicate (λ b. b ≢ 10) seen.dropped 0 (zero_no_feed 0 refl); long = long })

-- ---- more bytes

-- the same reading, with nothing dropped before it
pub is_own : (n : Stored) → n.dropped ≡ 0 → IsOf n n.reading
is_own n d = record { front = []; same = refl; size = sym d; no_feed = All-nil (λ b. b ≢ 10); long = inl d }

fills_behind : (a b : Option (List ℕ)) (front : List ℕ) (r s : Reading) → Fills a b r s → Fills a b (behind front r) (behind front s)
fills_behind a b front r s f = record {
  got = f.got;
  gets = record { consumed = f.gets.consumed; counted = f.gets.counted; most = f.gets.most; end = f.gets.end; below = f.gets.below; ended = f.gets.ended };
  held = ap (λ xs. front ++ xs) f.held ∙ sym (append_assoc front r.held f.got);
  given = f.given;
}

pub moves_fill : (a b : Option (List ℕ)) (k n : Stored) → Fills a b k.reading n.reading → n.dropped ≡ k.dropped → Moves (λ r s. Fills a b r s) k n
moves_fill a b k n f d r i = (
  behind i.front n.reading,
  record {
    front = i.front;
    same = refl;
    size = i.size ∙ sym d;
    no_feed = i.no_feed;
    long = subst (λ x. (x ≡ 0) ⊎ (4101 ≤ x)) (sym d) i.long;
  },
  subst (λ z. Fills a b z (behind i.front n.reading)) (sym i.same) (fills_behind a b i.front k.reading n.reading f),
)

pub moves_nothing : (a : Option (List ℕ)) (k : Stored) → Moves (λ r s. Fills a a r s) k k
moves_nothing a k r i = (r, i, Fills-nothing a r)

-- the reading has not ended, as far as the reader knows
still_open : (k : Stored) (r : Reading) → IsOf k r → k.reading.has_ended ≡ false → r.has_ended ≡ false
still_open k r i e = ap (λ (z : Reading). z.has_ended) i.same ∙ e

-- bytes got, then bytes dropped, then more bytes got
pub moves_on : (a b c : Option (List ℕ)) (k m n p : Stored) → m.reading.has_ended ≡ false → Moves (λ r s. Fills a b r s) k m → Moves (λ r s. s ≡ r) m n →
    Fills b c n.reading p.reading → p.dropped ≡ n.dropped → Moves (λ r s. Fills a c r s) k p
moves_on a b c k m n p begun first drops f d r i =
    let x = first r i in
    let y = drops x.0 x.1 in
    let z = moves_fill b c n p f d y.0 y.1 in
    let more = subst (λ q. Fills b c q z.0) y.2 z.2 in
    (z.0, z.1, Fills-then a b c r x.0 z.0 (still_open m x.0 x.1 begun) x.2 more)

-- ---- bytes dropped

pub some_or_long : (d h : ℕ) → (d ≡ 0) ⊎ (4101 ≤ d) → (0 < d) ⊎ (4101 ≤ h) → 4101 ≤ d + h
some_or_long d h (inl z) (inl l) = absurd (omega (arith, z, l))
some_or_long d h (inl z) (inr l) = omega (arith, l)
some_or_long d h (inr l) why = omega (arith, l)

emptied_behind : (held : List ℕ) (r : Reading) → record { held = held; given = r.given; taken = r.taken; most = r.most; has_ended = r.has_ended } ≡ behind held (emptied r)
emptied_behind held r = ap (λ xs. record { held = xs; given = r.given; taken = r.taken; most = r.most; has_ended = r.has_ended }) (sym (append-nil held))

pub drops_all : (k n : Stored) → n.reading ≡ emptied k.reading → n.dropped ≡ k.dropped + length k.reading.held → HasNoFeed k.reading.held → (0 < k.dropped) ⊎ (4101 ≤ length k.reading.held) →
    Moves (λ r s. s ≡ r) k n
drops_all k n e d none why r i = (
  r,
  record {
    front = i.front ++ k.reading.held;
    same = i.same ∙ emptied_behind (i.front ++ k.reading.held) k.reading ∙ ap (behind (i.front ++ k.reading.held)) (sym e);
    size = length-append i.front k.reading.held ∙ ap (λ x. x + length k.reading.held) i.size ∙ sym d;
    no_feed = All-append (λ b. b ≢ 10) i.front k.reading.held i.no_feed none;
    long = inr (subst (λ x. 4101 ≤ x) (sym d) (some_or_long k.dropped (length k.reading.held) i.long why));
  },
  refl,
)

-- ---- lines

return_size : (xs : List ℕ) → length xs ≤ length (without_return xs) + 1
return_size [] = omega arith
return_size (b ∷ []) = elim (nat_eq b 13) as (λ t. 1 ≤ length (cond t [] (b ∷ [])) + 1) [ true ↦ omega arith | false ↦ omega arith ]
return_size (b ∷ c ∷ xs) = let less = return_size (c ∷ xs) in omega (arith, less)

mark_size : (xs : List ℕ) → length xs ≤ length (without_mark xs) + 3
mark_size [] = omega arith
mark_size (a ∷ []) = omega arith
mark_size (a ∷ b ∷ []) = omega arith
mark_size (a ∷ b ∷ c ∷ xs) =
    elim (nat_eq a 0xEF && nat_eq b 0xBB && nat_eq c 0xBF) as (λ t. length (a ∷ b ∷ c ∷ xs) ≤ length (cond t xs (a ∷ b ∷ c ∷ xs)) + 3) [ true ↦ omega arith | false ↦ omega arith ]

unmarked_size : (n : ℕ) (xs : List ℕ) → length xs ≤ length (unmarked n xs) + 3
unmarked_size zero xs = mark_size xs
unmarked_size (suc n) xs = omega arith

front_size : (front more : List ℕ) → 4101 ≤ length front → 4101 ≤ length (front ++ more)
front_size front more l = omega (arith, l, length-append front more)

long_line : (n : ℕ) (xs : List ℕ) → 4101 ≤ length xs → 4096 < length (without_return (unmarked n xs))
long_line n xs l = let a = unmarked_size n xs in let b = return_size (unmarked n xs) in omega (arith, l, a, b)

long_last : (n : ℕ) (xs : List ℕ) → 4101 ≤ length xs → 4096 < length (unmarked n xs)
long_last n xs l = let a = unmarked_size n xs in omega (arith, l, a)

nothing_dropped : (front : List ℕ) (r : Reading) → length front ≡ 0 → behind front r ≡ r
nothing_dropped [] r e = refl
nothing_dropped (b ∷ front) r e = absurd (omega (arith, e))

keeps_behind : (front : List ℕ) (r s : Reading) → KeepsSource r s → KeepsSource (behind front r) s
keeps_behind front r s k = record { taken = k.taken; most = k.most; has_ended = k.has_ended }

-- a long line before a line feed
gives_long : (front : List ℕ) (r s : Reading) (line : Line) (at : ℕ) → HasNoFeed front → 4101 ≤ length front → at < length r.held → slice_index r.held at ≡ 10 → HasNoFeed (take at r.held) →
    line ≡ Long (r.given + 1) → s.held ≡ drop (at + 1) r.held → s.given ≡ r.given + 1 → Gives (front ++ r.held) (behind front r) s line
gives_long front r s line at none l place feed first is held given =
    subst (λ z. Gives (front ++ r.held) (behind front r) s z) (sym is) (
      refl,
      given,
      (
        without_return (unmarked r.given (front ++ take at r.held)),
        long_line r.given (front ++ take at r.held) (front_size front (take at r.held) l),
        inl (record {
          raw = front ++ take at r.held;
          no_feed = All-append (λ b. b ≢ 10) front (take at r.held) none first;
          whole =
              ap (λ xs. front ++ xs) (split_feed r.held at place feed ∙ ap (λ xs. take at r.held ++ 10 ∷ xs) (sym (held ∙ ap (λ n. drop n r.held) (one_more at))))
              ∙ sym (append_assoc front (take at r.held) (10 ∷ s.held));
          shown = refl;
        }),
      ),
    )
  where
    one_more : (n : ℕ) → n + 1 ≡ suc n
    one_more n = omega arith

gives_at : (front : List ℕ) (r s : Reading) (line : Line) (at : ℕ) (d : ℕ) → length front ≡ d → HasNoFeed front → (d ≡ 0) ⊎ (4101 ≤ d) → at < length r.held → slice_index r.held at ≡ 10 → HasNoFeed (take at r.held) →
    (d ≡ 0 → Shows line (r.given + 1) (without_return (unmarked r.given (take at r.held)))) → (0 < d → line ≡ Long (r.given + 1)) →
    s.held ≡ drop (at + 1) r.held → s.given ≡ r.given + 1 → Gives (front ++ r.held) (behind front r) s line
gives_at front r s line at d size none (inl z) place feed first short long held given =
    subst (λ (q : Reading). Gives q.held q s line) (sym (nothing_dropped front r (size ∙ z)))
    (gives_line r s line at (without_return (unmarked r.given (take at r.held))) place feed first refl (short z) held given)
gives_at front r s line at d size none (inr l) place feed first short long held given =
    gives_long front r s line at none (subst (λ n. 4101 ≤ n) (sym size) l) place feed first (long (omega (arith, l))) held given

pub line_moves : (k n : Stored) (line : Line) (at : ℕ) → at < length k.reading.held → slice_index k.reading.held at ≡ 10 → HasNoFeed (take at k.reading.held) →
    (k.dropped ≡ 0 → Shows line (k.reading.given + 1) (without_return (unmarked k.reading.given (take at k.reading.held)))) → (0 < k.dropped → line ≡ Long (k.reading.given + 1)) →
    n.reading.held ≡ drop (at + 1) k.reading.held → n.reading.given ≡ k.reading.given + 1 → n.dropped ≡ 0 → KeepsSource k.reading n.reading → Moves (λ r s. GivesFrom r s line) k n
line_moves k n line at place feed first short long held given none keeps r i = (
  n.reading,
  is_own n none,
  subst (λ q. GivesFrom q n.reading line) (sym i.same) (record {
    gives = gives_at i.front k.reading n.reading line at k.dropped i.size i.no_feed i.long place feed first short long held given;
    keeps = keeps_behind i.front k.reading n.reading keeps;
  }),
)

-- ---- the last line

gives_last : (r s : Reading) (line : Line) → HasNoFeed r.held → unmarked r.given r.held ≢ [] → Shows line (r.given + 1) (unmarked r.given r.held) → s.held ≡ [] → s.given ≡ r.given + 1 → s.has_ended ≡ true →
    Gives r.held r s line
gives_last r s (Text n line) none some is held given over =
    let short : length line.items ≤ 4096 = subst (λ z. length z ≤ 4096) (sym is.1) is.2 in
    (is.0, given ∙ sym is.0, short, inr (over, held, record { no_feed = none; some = subst (λ z. z ≢ []) (sym is.1) some; shown = is.1 }))
gives_last r s (Long n) none some is held given over =
    (is.0, given ∙ sym is.0, (unmarked r.given r.held, is.1, inr (over, held, record { no_feed = none; some = some; shown = refl })))
gives_last r s End none some is held given over = absurd is

no_bytes : (n : ℕ) (xs : List ℕ) → 4101 ≤ length xs → unmarked n xs ≢ []
no_bytes n xs l e = let more = long_last n xs l in omega (arith, more, ap length e)

gives_long_last : (front : List ℕ) (r s : Reading) (line : Line) → HasNoFeed front → 4101 ≤ length front → HasNoFeed r.held → line ≡ Long (r.given + 1) → s.held ≡ [] → s.given ≡ r.given + 1 → s.has_ended ≡ true →
    Gives (front ++ r.held) (behind front r) s line
gives_long_last front r s line none l first is held given over =
    let long = front_size front r.held l in
    subst (λ z. Gives (front ++ r.held) (behind front r) s z) (sym is) (
      refl,
      given,
      (
        unmarked r.given (front ++ r.held),
        long_last r.given (front ++ r.held) long,
        inr (over, held, record { no_feed = All-append (λ b. b ≢ 10) front r.held none first; some = no_bytes r.given (front ++ r.held) long; shown = refl }),
      ),
    )

gives_at_end : (front : List ℕ) (r s : Reading) (line : Line) (d : ℕ) → length front ≡ d → HasNoFeed front → (d ≡ 0) ⊎ (4101 ≤ d) → HasNoFeed r.held → (d ≡ 0 → unmarked r.given r.held ≢ []) →
    (d ≡ 0 → Shows line (r.given + 1) (unmarked r.given r.held)) → (0 < d → line ≡ Long (r.given + 1)) → s.held ≡ [] → s.given ≡ r.given + 1 → s.has_ended ≡ true →
    Gives (front ++ r.held) (behind front r) s line
gives_at_end front r s line d size none (inl z) first some short long held given over =
    subst (λ (q : Reading). Gives q.held q s line) (sym (nothing_dropped front r (size ∙ z))) (gives_last r s line first (some z) (short z) held given over)
gives_at_end front r s line d size none (inr l) first some short long held given over =
    gives_long_last front r s line none (subst (λ n. 4101 ≤ n) (sym size) l) first (long (omega (arith, l))) held given over

pub last_moves : (k n : Stored) (line : Line) → k.reading.has_ended ≡ true → HasNoFeed k.reading.held → (k.dropped ≡ 0 → unmarked k.reading.given k.reading.held ≢ []) →
    (k.dropped ≡ 0 → Shows line (k.reading.given + 1) (unmarked k.reading.given k.reading.held)) → (0 < k.dropped → line ≡ Long (k.reading.given + 1)) →
    n.reading.held ≡ [] → n.reading.given ≡ k.reading.given + 1 → n.dropped ≡ 0 → KeepsSource k.reading n.reading → Moves (λ r s. GivesFrom r s line) k n
last_moves k n line over first some short long held given none keeps r i = (
  n.reading,
  is_own n none,
  subst (λ q. GivesFrom q n.reading line) (sym i.same) (record {
    gives = gives_at_end i.front k.reading n.reading line k.dropped i.size i.no_feed i.long first some short long held given (keeps.has_ended ∙ over);
    keeps = keeps_behind i.front k.reading n.reading keeps;
  }),
)

keeps_same : (r : Reading) → KeepsSource r r
keeps_same r = record { taken = refl; most = refl; has_ended = refl }

gives_end : (front : List ℕ) (r : Reading) (d : ℕ) → length front ≡ d → d ≡ 0 → r.has_ended ≡ true → HasNoFeed r.held → unmarked r.given r.held ≡ [] → Gives (front ++ r.held) (behind front r) (behind front r) End
gives_end front r d size z over first nothing =
    subst (λ (q : Reading). Gives q.held q q End) (sym (nothing_dropped front r (size ∙ z))) (refl, over, first, nothing, refl)

pub end_moves : (k : Stored) → k.reading.has_ended ≡ true → HasNoFeed k.reading.held → (k.dropped ≡ 0) × (unmarked k.reading.given k.reading.held ≡ []) → Moves (λ r s. GivesFrom r s End) k k
end_moves k over first nothing r i = (
  r,
  i,
  subst (λ q. GivesFrom q q End) (sym i.same) (record {
    gives = gives_end i.front k.reading k.dropped i.size nothing.0 over first nothing.1;
    keeps = keeps_same (behind i.front k.reading);
  }),
)

-- ---- no line feed

no_feed_in : (line : Line) (n : ℕ) (xs : List ℕ) → HasNoFeed xs → Shows line n xs → HoldsNoFeed line
no_feed_in (Text m line) n xs none is = subst HasNoFeed (sym is.1) none
no_feed_in (Long m) n xs none is = tt
no_feed_in End n xs none is = absurd is

pub shown_no_feed : {E : Type 0} (result : Result Line E) (n : ℕ) (xs : List ℕ) → HasNoFeed xs → IfOk result (λ line. Shows line n xs) → IfOk result HoldsNoFeed
shown_no_feed (Ok line) n xs none is = no_feed_in line n xs none is
shown_no_feed (Err e) n xs none is = tt

-- ---- a whole call

pub next_moves : (a b : Option (List ℕ)) (k m n : Stored) (line : Line) → Moves (λ r s. Fills a b r s) k m → Moves (λ r s. GivesFrom r s line) m n → Moves (GivesNext a b line) k n
next_moves a b k m n line fills gives r i =
    let x = fills r i in
    let y = gives x.0 x.1 in
    (y.0, y.1, gives_after a b r x.0 y.0 line x.2 y.2.keeps y.2.gives)

lacks_fails : (a b : Option (List ℕ)) (r s : Reading) (front : List ℕ) (k : Reading) (x : ReadFault) → (f : Fills a b r s) → s ≡ behind front k → HasNoFeed front → Lacks k x → Fails (r.held ++ f.got) r s x
lacks_fails a b r s front k fault.Failed f e none l =
    let here = ap (λ (z : Reading). z.held) e in
    let bytes = subst (λ xs. HasNoFeed xs) (sym here ∙ f.held) (All-append (λ c. c ≢ 10) front k.held none l.0) in
    (f.held, f.given, bytes, ap (λ (z : Reading). z.has_ended) e ∙ l.1, subst (λ (z : Reading). z.taken < z.most) (sym e) l.2)
lacks_fails a b r s front k fault.Limit f e none l =
    let here = ap (λ (z : Reading). z.held) e in
    let bytes = subst (λ xs. HasNoFeed xs) (sym here ∙ f.held) (All-append (λ c. c ≢ 10) front k.held none l.0) in
    (f.held, f.given, bytes, ap (λ (z : Reading). z.has_ended) e ∙ l.1, subst (λ (z : Reading). z.taken ≡ z.most) (sym e) l.2)
lacks_fails a b r s front k fault.Memory f e none l = (f.held, f.given)

pub fails_moves : (a b : Option (List ℕ)) (k m : Stored) (x : ReadFault) → Moves (λ r s. Fills a b r s) k m → Lacks m.reading x → Moves (FailsNext a b x) k m
fails_moves a b k m x fills lacks r i =
    let y = fills r i in
    (y.0, y.1, (y.2.got, y.2.gets, lacks_fails a b r y.0 y.1.front m.reading x y.2 y.1.same y.1.no_feed lacks))

pub memory_moves : (a b : Option (List ℕ)) (k m n : Stored) → Moves (λ r s. Fills a b r s) k m → n ≡ m → Moves (FailsNext a b fault.Memory) k n
memory_moves a b k m n fills e r i =
    let y = fills r i in
    (y.0, subst (λ z. IsOf z y.0) (sym e) y.1, (y.2.got, y.2.gets, (y.2.held, y.2.given)))
