pub mod PlusLemmas
