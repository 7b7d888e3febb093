mod FewHeld
mod Orders
mod SamePairs
