-- What can go on to a text, limits aside.
use Rattle.std.proofs.Common.{◌↔◌, inl, inr, ℕ, Bool, List, ◌++◌, refl}
use Rattle.std.specs.Bool.{⊤}
use Rattle.lang_specs.specs.Marks.{Mark, Lined}
use Rattle.lang_specs.specs.FirstFault.{IsViable}
use Rattle.lang_order.specs.declared.Place.{Place}
use Rattle.lang_order.specs.declared.Place.TheVariants as places
use Rattle.lang_order.specs.Statements.{Numbered, is_second}
use Rattle.lang_order.specs.Building.{trees_of}
use Rattle.lang_order.specs.ByLines.{AreWholeLines}
use Rattle.lang_order.specs.LineLimits.{Counts, none_yet, counts_from}
use Rattle.lang_order.specs.Beginnings.{in_line, IsOneLine, MayFollow}
use Rattle.lang_order.proofs.FromGrammar.{by_lines}
use Rattle.lang_order.proofs.ToGrammar.{by_grammar}
use Rattle.lang_order.proofs.Walks.{Any, say_of, order_of, walk_of, GoesOn}
use Rattle.lang_order.proofs.Completions.{Completes}
use Rattle.lang_order.proofs.TextsOn.{TextOf, goes_on, text_on}

any_completes : Completes Any (λ c. ⊤)
any_completes = record {
  begins = tt;
  stays = λ c ms s g. tt;
  lha = tt;
  automaton = tt;
  vars = λ c k. tt;
  loc = λ c k few. tt;
  flow = λ c k. tt;
  last = λ c k. tt;
}

text_of_viable : (ls : List Lined) → IsViable ls → TextOf Any ls
text_of_viable ls (more, trees, h) =
    let t = by_lines (ls ++ more) trees h in record {
      more = more;
      lines = t.lines;
      says = t.says;
      last = t.last;
      parts = t.parts;
      walk = walk_of (is_second t.says) places.Start none_yet t.lines t.says places.End t.whole.say t.whole.order;
    }

viable_of_text : (ls : List Lined) → TextOf Any ls → IsViable ls
viable_of_text ls t = (
  t.more,
  trees_of t.says,
  by_grammar (ls ++ t.more) (trees_of t.says) (record {
    lines = t.lines;
    says = t.says;
    last = t.last;
    parts = t.parts;
    whole = record {
      say = say_of Any (is_second t.says) places.Start none_yet t.lines t.says places.End t.walk;
      order = order_of Any (is_second t.says) places.Start none_yet t.lines t.says places.End t.walk;
    };
    builds = refl;
  }),
)

without : (v : Bool) (p : Place) (c : Counts) (ms : List Mark) → GoesOn Any v p c ms → MayFollow v p ms
without v p c ms (inl e) = inl e
without v p c ms (inr (inl e)) = inr (inl e)
without v p c ms (inr (inr (tail, s, (inside, e, (h, g))))) = inr (inr (tail, s, (inside, e, h)))

with_any : (v : Bool) (p : Place) (c : Counts) (ms : List Mark) → MayFollow v p ms → GoesOn Any v p c ms
with_any v p c ms (inl e) = inl e
with_any v p c ms (inr (inl e)) = inr (inl e)
with_any v p c ms (inr (inr (tail, s, (inside, e, h)))) = inr (inr (tail, s, (inside, e, (h, tt))))

pub viable_by_lines : (ls : List Lined) (ss : List Numbered) (p : Place) → AreWholeLines ls ss p → (line : ℕ) (ms : List Mark) → IsOneLine ms →
    IsViable (ls ++ in_line line ms) ↔ MayFollow (is_second ss) p ms
viable_by_lines ls ss p h n ms o =
    let v = is_second ss in
    let c = counts_from none_yet ss in
    let walk = walk_of v places.Start none_yet ls ss p h.say h.order in (
      λ i. without v p c ms (goes_on Any ls ss p n ms walk o (text_of_viable (ls ++ in_line n ms) i)),
      λ i. viable_of_text (ls ++ in_line n ms) (text_on Any (λ z. ⊤) any_completes ls ss p n ms walk (with_any v p c ms i)),
    )
