-- The trees that a text spells keep to the counts on which the widths of rows rest.
use Rattle.std.proofs.Common.{◌≡◌, ℕ, true, ◌&&◌, List, [], ◌∷◌, length}
use Rattle.std.specs.Prelude.{All}
use Rattle.std.specs.List.{AllByRecursion, list_all}
use Rattle.std.proofs.lemmas.Bool.{leb-true}
use Rattle.std.proofs.lemmas.List.Elements.{All-from_recursion}
use Rattle.lang_specs.specs.Trees.{Tree, bounds_of}
use Rattle.lang_specs.specs.declared.Which.TheVariants.{Variables, Locations}
use Rattle.lang_specs.specs.Limits.{has_at_most}
use Rattle.lang_specs.specs.FirstFault.{IsSpelling}
use Rattle.lang_specs.proofs.SplitLemmas.{both_left, both_right}
use Rattle.lha_check.specs.Elements.{IsSmall}

each_small : (trees : List Tree) → list_all (λ t. has_at_most 6 t.vars && has_at_most 6 (bounds_of t.obs)) trees ≡ true →
    list_all (λ t. has_at_most 32 t.locs) trees ≡ true → AllByRecursion IsSmall trees
each_small [] h k = tt
each_small (t ∷ ts) h k = (
  record {
    variables = leb-true (length t.vars) 6 (both_left _ _ (both_left (has_at_most 6 t.vars && has_at_most 6 (bounds_of t.obs)) _ h));
    locations = leb-true (length t.locs) 32 (both_left (has_at_most 32 t.locs) _ k);
  },
  each_small ts (both_right (has_at_most 6 t.vars && has_at_most 6 (bounds_of t.obs)) _ h) (both_right (has_at_most 32 t.locs) _ k),
)

pub small_trees : (text : List ℕ) (trees : List Tree) → IsSpelling text trees → All IsSmall trees
small_trees text trees s = All-from_recursion IsSmall trees (each_small trees (s.kept Variables) (s.kept Locations))
