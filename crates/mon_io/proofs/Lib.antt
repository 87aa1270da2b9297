mod FrontLemmas
mod WholeLemmas
