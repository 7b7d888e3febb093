mod Extracting
