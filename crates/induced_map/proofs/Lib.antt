pub mod PullLemmas
