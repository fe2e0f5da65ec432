pub mod PiecesLemmas
