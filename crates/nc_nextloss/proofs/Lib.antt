pub mod HiddenVector
pub mod NoWitness
pub mod PlanLemmas
pub mod GoodLemmas
