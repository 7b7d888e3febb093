mod Misfits
