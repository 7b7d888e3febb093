mod SeenLemmas
mod AddedLemmas
