-- Bytes that were got in several calls.
use Rattle.std.specs.declared.alloc.AllocError.{AllocError}
use Rattle.std.proofs.Common.{Result, Ok, IfOk, OnOk, ◌≡◌, ◌⊎◌, ℕ, ◌+◌, ◌<◌, ◌≤◌, List, [], ◌++◌, length, Bool, true, false, Option, Some, None, refl, sym, ◌∙◌, ap, subst, append_assoc, arith}
use Rattle.std.proofs.lemmas.List.{append-nil, length-append}
use Rattle.std.specs.Io.KnownBytes.{Consumes, Keeps}
use Rattle.report_specs.specs.Lines.{HasNoFeed, unmarked}
use Rattle.log_reader.specs.declared.line.Line.{Line}
use Rattle.log_reader.specs.declared.line.Line.TheVariants.{Text, Long, End}
use Rattle.log_reader.specs.Reading.{Reading, Gets, Fills, Gives, KeepsSource, HasLine, HasLastLine}

pub Consumes-more : (old mid new : Option (List ℕ)) (xs ys : List ℕ) → Consumes old mid xs → Consumes mid new ys → Consumes old new (xs ++ ys)
Consumes-more None mid new xs ys a b = tt
Consumes-more (Some os) None new xs ys a b = absurd a
Consumes-more (Some os) (Some ms) None xs ys a b = absurd b
Consumes-more (Some os) (Some ms) (Some ns) xs ys a b = a ∙ ap (λ zs. xs ++ zs) b ∙ sym (append_assoc xs ys ns)

pub Consumes-nothing : (old : Option (List ℕ)) → Consumes old old []
Consumes-nothing None = tt
Consumes-nothing (Some xs) = refl

not_both : {x : Bool} → x ≡ true → x ≡ false → ⊥
not_both p q = cc

pub Fills-nothing : (told : Option (List ℕ)) (r : Reading) → Fills told told r r
Fills-nothing told r = record {
  got = [];
  gets = record { consumed = Consumes-nothing told; counted = omega arith; most = refl; end = λ a b. absurd (not_both b a); below = λ a b. absurd (not_both b a); ended = λ e. (e, refl) };
  held = sym (append-nil r.held);
  given = refl;
}

-- nothing was got, and the reader is as before
pub Fills-kept : (a b : Option (List ℕ)) (r s : Reading) → Keeps a b → s ≡ r → Fills a b r s
Fills-kept a b r s k e = subst (λ z. Fills a b r z) (sym e) (kept a b k)
  where
    kept : (a b : Option (List ℕ)) → Keeps a b → Fills a b r r
    kept None b k = record {
      got = [];
      gets = record { consumed = tt; counted = omega arith; most = refl; end = λ p q. absurd (not_both q p); below = λ p q. absurd (not_both q p); ended = λ p. (p, refl) };
      held = sym (append-nil r.held);
      given = refl;
    }
    kept (Some xs) None k = absurd k
    kept (Some xs) (Some ys) k = subst (λ zs. Fills (Some xs) (Some zs) r r) (sym k) (Fills-nothing (Some xs) r)

-- the call before left the source open
pub Fills-then : (a b c : Option (List ℕ)) (r s t : Reading) → s.has_ended ≡ false → Fills a b r s → Fills b c s t → Fills a c r t
Fills-then a b c r s t begun f h = record {
  got = f.got ++ h.got;
  gets = record {
    consumed = Consumes-more a b c f.got h.got f.gets.consumed h.gets.consumed;
    counted = h.gets.counted ∙ ap (λ n. n + length h.got) f.gets.counted ∙ omega (arith, length-append f.got h.got);
    most = h.gets.most ∙ f.gets.most;
    end = λ o n. h.gets.end begun n;
    below = λ o n. h.gets.below begun n;
    ended = λ e. absurd (not_both (f.gets.ended e).0 begun);
  };
  held = h.held ∙ ap (λ zs. zs ++ h.got) f.held ∙ append_assoc r.held f.got h.got;
  given = h.given ∙ f.given;
}

gives_by_count : (bytes : List ℕ) (old mid new : Reading) (line : Line) → mid.given ≡ old.given → Gives bytes mid new line → Gives bytes old new line
gives_by_count bytes old mid new (Text n line) e g =
    let P : ℕ → Type 0 = λ k. (n ≡ k + 1) × (new.given ≡ n) × (length line.items ≤ 4096) × (HasLine k bytes line.items new.held ⊎ ((new.has_ended ≡ true) × (new.held ≡ []) × HasLastLine k bytes line.items)) in
    subst P e g
gives_by_count bytes old mid new (Long n) e g =
    let P : ℕ → Type 0 = λ k. (n ≡ k + 1) × (new.given ≡ n) × ((line : List ℕ) × (4096 < length line) × (HasLine k bytes line new.held ⊎ ((new.has_ended ≡ true) × (new.held ≡ []) × HasLastLine k bytes line))) in
    subst P e g
gives_by_count bytes old mid new End e g =
    let P : ℕ → Type 0 = λ k. (new.given ≡ k) × (new.has_ended ≡ true) × HasNoFeed bytes × (unmarked k bytes ≡ []) × (new.held ≡ bytes) in
    subst P e g

gets_kept : (a b : Option (List ℕ)) (old mid new : Reading) (got : List ℕ) → Gets a b old mid got → KeepsSource mid new → Gets a b old new got
gets_kept a b old mid new got g k = record {
  consumed = g.consumed;
  counted = k.taken ∙ g.counted;
  most = k.most ∙ g.most;
  end = λ o n. g.end o (sym k.has_ended ∙ n);
  below = λ o n. let l = g.below o (sym k.has_ended ∙ n) in omega (arith, l, k.taken, k.most);
  ended = λ o. (k.has_ended ∙ (g.ended o).0, (g.ended o).1);
}

-- a line that is given after the bytes were got
pub gives_after : (a b : Option (List ℕ)) (old mid new : Reading) (line : Line) → Fills a b old mid → KeepsSource mid new → Gives mid.held mid new line →
    (got : List ℕ) × Gets a b old new got × Gives (old.held ++ got) old new line
gives_after a b old mid new line f k g =
    (f.got, gets_kept a b old mid new f.got f.gets k, gives_by_count (old.held ++ f.got) old mid new line f.given (subst (λ bytes. Gives bytes mid new line) f.held g))

-- the same by what a call answered
pub gives_after_ok : (a b : Option (List ℕ)) (old mid new : Reading) (result : Result Line AllocError) (line : Line) → result ≡ Ok line →
    Fills a b old mid → OnOk result (KeepsSource mid new) → IfOk result (Gives mid.held mid new) →
    (got : List ℕ) × Gets a b old new got × Gives (old.held ++ got) old new line
gives_after_ok a b old mid new result line is f k g =
    gives_after a b old mid new line f (subst (λ r. OnOk r (KeepsSource mid new)) is k) (subst (λ r. IfOk r (Gives mid.held mid new)) is g)
