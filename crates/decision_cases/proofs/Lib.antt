mod HoldingLemmas
