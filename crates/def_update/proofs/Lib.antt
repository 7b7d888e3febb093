mod OnLiterals
