mod Verified
