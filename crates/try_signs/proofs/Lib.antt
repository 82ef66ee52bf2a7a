mod OrdersLemmas
